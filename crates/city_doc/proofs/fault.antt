-- Lemmas for src/fault/.
mod Escapes
