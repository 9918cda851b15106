-- What handing over chains does, for every room that finds them. Definitions only.
pub mod Pages
