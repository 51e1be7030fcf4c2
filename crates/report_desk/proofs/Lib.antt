-- Laws of the printed lines, and of the texts that they are of.
pub mod PrintedLaws
pub mod ReadLaws
