pub mod GoLines
pub mod KernelLines
pub mod Lookahead
