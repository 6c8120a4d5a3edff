mod NumberLaws
mod PieceReads
mod IndexReads
