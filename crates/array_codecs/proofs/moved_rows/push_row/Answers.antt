use Rattle.std.proofs.Common.{◌≡◌, ◌+◌, ◌*◌, ◌∙◌, ℕ, List, length, map, sym, ap, arith}
use Rattle.std.specs.List.{All, range_with_len}
use Rattle.parts_row_major.specs.Pieces.{piece}
use Rattle.parts_row_major.proofs.PieceLaws.{length-concat, piece_of-concat}
use Rattle.parts_arrays.specs.Arrays.{element_of}
use Rattle.array_codecs.proofs.MovedRows.{piece_within, rows_alike}
use Rattle.array_codecs.proofs.moved_rows.push_row.Goals as goal

pub push_pieces-requires-clause-within : goal.push_pieces-requires-clause-within
push_pieces-requires-clause-within c k lt =
    let a = c.args in
    let size = c.in-Fixed.size in
    let sized : All (λ e. length e ≡ size) a.inner.now.elements = rw (sym c.in-Fixed.ensures.value) at c.in-Fixed.ensures.fitting in
    let long : length c.in-Some.bytes.now ≡ length a.inner.now.elements * size = ap length c.in-Some.ensures.some ∙ length-concat size a.inner.now.elements sized in
    omega (arith, long, piece_within (a.first + k * a.step) (length a.inner.now.elements) size (c.requires.within k lt))

pub returns-in-Some-clause-ok : goal.returns-in-Some-clause-ok
returns-in-Some-clause-ok c =
    let a = c.args in
    let size = c.in-Fixed.size in
    let sized : All (λ e. length e ≡ size) a.inner.now.elements = rw (sym c.in-Fixed.ensures.value) at c.in-Fixed.ensures.fitting in
    let f : ℕ → List ℕ = λ k. element_of a.inner.now (a.first + k * a.step) in
    let g : ℕ → List ℕ = λ k. piece size c.in-Some.bytes.now (a.first + k * a.step) in
    let alike : map g (range_with_len 0 a.run) ≡ map f (range_with_len 0 a.run) = rows_alike f g a.run (λ k lt.
    sym (ap (λ bytes. piece size bytes (a.first + k * a.step)) c.in-Some.ensures.some ∙ piece_of-concat size a.inner.now.elements (a.first + k * a.step) sized (c.requires.within k lt))) in
    rw alike at c.push_pieces.ensures.ok
