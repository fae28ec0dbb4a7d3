-- What contracts of the lexer's functions say of the text before them; all of it serves contracts and proofs alone.
pub mod Scan
