-- Laws of the C interface.
mod Outcomes
