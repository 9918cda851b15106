-- Numbers in decimal digits, the lines that are printed, and what printing asks and does. Definitions only.
pub mod Decimal
pub mod Lines
pub mod Printed
