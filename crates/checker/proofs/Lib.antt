-- When the search can be left out, and the answer for the flat tables of edges and nodes; what it promises; the exact summary.
pub mod SkipLaws
pub mod WorthLaws
pub mod PolicyLaws
pub mod ReasonLaws
pub mod AcceptedLaws
pub mod PromiseLaws
pub mod RightLaws
pub mod MarkLaws
pub mod SummaryLaws
