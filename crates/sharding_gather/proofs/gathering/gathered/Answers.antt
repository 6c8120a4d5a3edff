use Rattle.std.proofs.Common.{◌≡◌, ◌/◌, inl, inr, arith, length}
use Rattle.parts_subsets.proofs.GridLaws.{positions_of}
use Rattle.parts_row_major.specs.Numbering.{count_of}
use Rattle.codec_traits.specs.RefusalLaws.{passed_on}
use Rattle.sharding_gather.proofs.gathering.gathered.Goals as goal
use Rattle.sharding_gather.proofs.gathering.gathered.Goals.{After-check_lengths}

-- each subchunk has as many places as its shape has cells
positions : (c : After-check_lengths) → c.args.cells / length c.args.subchunks.now ≡ count_of c.args.sub.now
positions c =
    positions_of c.args.cells (length c.args.subchunks.now) c.args.shape.now c.args.sub.now c.requires.divides c.requires.cells c.requires.subchunks.counted
    (omega (arith, c.requires.some, c.requires.subchunks.counted))

pub returns-in_err-bytes-clause-refused : goal.returns-in_err-bytes-clause-refused
returns-in_err-bytes-clause-refused c =
    let refused = rw (positions (goal.at.returns-in_err-bytes-clause-refused c).After-check_lengths) at c.in_err-bytes.ensures.refused in
    passed_on _ c.in_err-bytes.field-0.0 _ c.from_residual.ensures.1 (inl (λ fits. absurd (omega (arith, fits refused.1, refused.2)), refused.0))

pub listed-requires : goal.listed-requires
listed-requires c = record {
  shard = record {
    subchunks = rw c.in-Variable.is at c.requires.subchunks;
    cells = c.requires.cells;
    positions = positions (goal.at.listed-requires c).After-check_lengths;
    divides = c.requires.divides;
  };
}

pub written_rows-requires-clause-shard : goal.written_rows-requires-clause-shard
written_rows-requires-clause-shard c =
    let size = rw c.in-Fixed.is at c.requires.fill in
    record {
      subchunks = rw size (rw c.in-Fixed.is at c.requires.subchunks);
      cells = c.requires.cells;
      positions = positions (goal.at.written_rows-requires-clause-shard c).After-check_lengths;
      divides = c.requires.divides;
    }

pub returns-in_err-array-in-Variable-clause-refused : goal.returns-in_err-array-in-Variable-clause-refused
returns-in_err-array-in-Variable-clause-refused c =
    let e = c.in_err-array-in-Variable.field-0.0 in
    let fits = rw (positions (goal.at.returns-in_err-array-in-Variable-clause-refused c).After-check_lengths) at c.in_ok-bytes.ensures.fits in
    passed_on _ e _ c.from_residual-in_err-array-in-Variable.ensures.1 (inr (fits, c.in_err-array-in-Variable.ensures.refused))

pub returns-clause-fits : goal.returns-clause-fits
returns-clause-fits c = rw (positions (goal.at.returns-clause-fits c).After-check_lengths) at c.in_ok-bytes.ensures.fits
