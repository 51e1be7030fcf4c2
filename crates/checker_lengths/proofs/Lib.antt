-- What the code on single entries and rules computes is what the definitions say.
pub mod EntryLaws
pub mod OfferLaws
pub mod PassLaws
pub mod MemberLaws
pub mod LeftLaws
pub mod Inversion
pub mod Numbers
pub mod RuleLaws
pub mod RuledLaws
pub mod FullLaws
