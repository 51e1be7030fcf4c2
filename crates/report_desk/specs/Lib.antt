-- Printed: what the program of the desk prints. Code: how its functions put that into a buffer.
pub mod Printed
pub mod Code
