pub mod Instances
pub mod Created
pub mod Sets
pub mod Order
pub mod Code
