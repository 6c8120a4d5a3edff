use Rattle.std.proofs.Common.{◌≡◌, ◌*◌, arith}
use Rattle.parts_strided_copy.proofs.rows.copy_rows.Goals as goal

pub copy_rows_of-requires-clause-known : goal.copy_rows_of-requires-clause-known
copy_rows_of-requires-clause-known c =
    let whole : c.args.run * c.args.size ≡ 1 = omega (arith, c.in-1.is, c.saturating_mul-bytes.ensures) in
    λ some. whole

pub copy_rows_of-requires-in-2-clause-known : goal.copy_rows_of-requires-in-2-clause-known
copy_rows_of-requires-in-2-clause-known c =
    let whole : c.args.run * c.args.size ≡ 2 = omega (arith, c.in-2.is, c.saturating_mul-bytes.ensures) in
    λ some. whole

pub copy_rows_of-requires-in-4-clause-known : goal.copy_rows_of-requires-in-4-clause-known
copy_rows_of-requires-in-4-clause-known c =
    let whole : c.args.run * c.args.size ≡ 4 = omega (arith, c.in-4.is, c.saturating_mul-bytes.ensures) in
    λ some. whole

pub copy_rows_of-requires-in-8-clause-known : goal.copy_rows_of-requires-in-8-clause-known
copy_rows_of-requires-in-8-clause-known c =
    let whole : c.args.run * c.args.size ≡ 8 = omega (arith, c.in-8.is, c.saturating_mul-bytes.ensures) in
    λ some. whole

pub copy_rows_of-requires-in-16-clause-known : goal.copy_rows_of-requires-in-16-clause-known
copy_rows_of-requires-in-16-clause-known c =
    let whole : c.args.run * c.args.size ≡ 16 = omega (arith, c.in-16.is, c.saturating_mul-bytes.ensures) in
    λ some. whole

pub copy_rows_of-requires-in-32-clause-known : goal.copy_rows_of-requires-in-32-clause-known
copy_rows_of-requires-in-32-clause-known c =
    let whole : c.args.run * c.args.size ≡ 32 = omega (arith, c.in-32.is, c.saturating_mul-bytes.ensures) in
    λ some. whole

pub copy_rows_of-requires-in-64-clause-known : goal.copy_rows_of-requires-in-64-clause-known
copy_rows_of-requires-in-64-clause-known c =
    let whole : c.args.run * c.args.size ≡ 64 = omega (arith, c.in-64.is, c.saturating_mul-bytes.ensures) in
    λ some. whole
