-- Promise: what the check promises; Accepted: what its acceptance means for the judge;
-- Summary: which steps can go wrong. Code: what its functions compute.
pub mod Accepted
pub mod Promise
pub mod Summary
pub mod Code
