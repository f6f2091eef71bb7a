mod Asked
mod Numerals
mod PileWords
mod Pieces
mod Texts
mod Loans
