pub mod Asked
pub mod SameLaws
pub mod Fault
pub mod RuledLaws
pub mod Printed
pub mod DataLaws
pub mod Said
pub mod Examples
