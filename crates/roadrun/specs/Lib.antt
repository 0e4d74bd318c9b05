pub mod Failed
pub mod Printed
