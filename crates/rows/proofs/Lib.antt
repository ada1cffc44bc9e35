-- Laws of words.
mod Halves
