use Rattle.std.proofs.Common.{◌≡◌, ◌<◌, ℕ, List, [], ◌∷◌, ◌++◌, Vec, Global, length, map, get_or, take, ap, sym, ◌∙◌, arith}
use Rattle.std.proofs.lemmas.List.{length-map, get_or-map, map-set}
use Rattle.std.proofs.lemmas.List.Elements.{All-take}
use Rattle.parts_row_major.specs.Numbering.{count_of}
use Rattle.parts_subsets.specs.Grid.{subchunk_number, position_number}
use Rattle.parts_subsets.specs.declared.grid.Located.{Located}
use Rattle.sharding_format.specs.ReadRefusals.{positions_in}
use Rattle.sharding_gather.specs.declared.grouping.Grouping.{Grouping}
use Rattle.sharding_gather.proofs.GroupingLemmas.{Contains-map, same_at, none_standing, one_more_stands, used_from_members, grouped_cells, used_below, positions_below}
use Rattle.sharding_gather.proofs.grouping.grouped.Goals as goal

pub loop-cell-init : goal.loop-cell-init
loop-cell-init c =
    let many : c.len.result ≡ length c.in_ok-used.used.items = omega (arith, c.in_ok-used.used.ok.0) in
    rw (c.in_ok-positions.ensures, many, c.in_ok-standings.ensures.items)
    (none_standing c.args.shape.now c.args.sub.now c.args.numbers.now c.in_ok-used.used.items)

pub group_of-group-requires-clause-member : goal.group_of-group-requires-clause-member
group_of-group-requires-clause-member c =
    let members = rw c.deref.ensures.value at c.in_ok-used.ensures.members in
    let lt = rw c.deref-cell-items.ensures.value at c.loop-cell-test.true in
    rw (c.deref-in-loop-cell.ensures.value, c.deref-cell-items.ensures.value)
    ((members _).1 (Contains-map (λ cell. cell.subchunk) c.in_ok-located.located.items c.loop-cell.cell-index _ lt))

pub loop-cell-preserved : goal.loop-cell-preserved
loop-cell-preserved c =
    let shape = c.args.shape.now in
    let sub = c.args.sub.now in
    let numbers = c.args.numbers.now in
    let used = c.in_ok-used.used.items in
    let cells = c.in_ok-located.located.items in
    let n = c.loop-cell.cell-index in
    let j = c.group_of-group.result in
    let vecs = c.loop-cell.positions.items in
    let items : Vec ℕ Global → List ℕ = λ list. list.items in
    let list = c.index_mut-list.result.now in
    let none : Located = record { subchunk = 0; position = 0 } in
    let lt = rw c.deref-cell-items.ensures.value at c.loop-cell-test.true in
    let number = get_or numbers n 0 in
    let own = same_at (λ cell. cell.subchunk) (subchunk_number shape sub) cells numbers n none 0 c.in_ok-located.ensures.subchunks lt in
    let position = same_at (λ cell. cell.position) (position_number shape sub) cells numbers n none 0 c.in_ok-located.ensures.positions lt in
    let within : n < length numbers =
    omega (arith, ap length c.in_ok-located.ensures.subchunks, length-map cells (λ cell. cell.subchunk), length-map numbers (subchunk_number shape sub)) in
    let below = rw c.deref-in-loop-cell.ensures.value at c.group_of-group.ensures.below in
    let found = rw (c.deref-in-loop-cell.ensures.value, c.deref-cell-items.ensures.value) at c.group_of-group.ensures.found in
    let long : j < length vecs = omega (arith, ap length c.loop-cell.invariant.positions, length-map vecs items, length-map used (positions_in shape sub (take n numbers))) in
    let old : get_or (map items vecs) j [] ≡ items list = get_or-map items vecs j list [] long ∙ ap items (sym c.index_mut-list.ensures.value) in
    let grown : items c.push-in-loop-cell.new.self ≡ items list ++ position_number shape sub number ∷ [] =
    c.in_ok-push-2.ensures.items ∙ ap (λ p. items list ++ p ∷ []) (ap (λ xs. (get_or xs n none).position) c.deref-cell-items.ensures.value ∙ position) in
    let rank : c.len-in-loop-cell.result ≡ length (get_or (map items vecs) j []) = omega (arith, list.ok.0, ap length old) in
    rw (map-set items vecs j c.push-in-loop-cell.new.self, grown, ← old, c.in_ok-push.ensures.items, rank)
    (one_more_stands shape sub numbers used n j (map items vecs) c.loop-cell.standings.items c.in_ok-used.ensures.rising within below (found ∙ own) c.loop-cell.invariant)

pub returns-clause-grouped : goal.returns-clause-grouped
returns-clause-grouped c =
    let shape = c.args.shape.now in
    let sub = c.args.sub.now in
    let numbers = c.args.numbers.now in
    let cells = c.in_ok-located.located.items in
    let n = c.loop-cell.cell-index in
    let members = rw (c.deref.ensures.value, c.in_ok-located.ensures.subchunks) at c.in_ok-used.ensures.members in
    let long : length cells ≡ length numbers =
    omega (arith, ap length c.in_ok-located.ensures.subchunks, length-map cells (λ cell. cell.subchunk), length-map numbers (subchunk_number shape sub)) in
    let all : n ≡ length numbers = omega (arith, ap length c.deref-cell-items.ensures.value) in
    let groups : Grouping = record { subchunks = c.in_ok-used.used; positions = c.loop-cell.positions; standings = c.loop-cell.standings } in
    grouped_cells shape sub numbers n groups all (used_from_members shape sub numbers c.in_ok-used.used.items c.in_ok-used.ensures.rising members) c.loop-cell.invariant

pub returns-clause-below : goal.returns-clause-below
returns-clause-below c =
    let members = rw (c.deref.ensures.value, c.in_ok-located.ensures.subchunks) at c.in_ok-used.ensures.members in
    used_below c.args.shape.now c.args.sub.now c.args.numbers.now c.in_ok-used.used.items c.requires.divides c.requires.inside (λ k. (members k).0)

pub returns-clause-positions_below : goal.returns-clause-positions_below
returns-clause-positions_below c =
    let n = c.loop-cell.cell-index in
    rw c.loop-cell.invariant.positions
    (positions_below c.args.shape.now c.args.sub.now (take n c.args.numbers.now) c.in_ok-used.used.items c.requires.divides
    (All-take (λ i. i < count_of c.args.shape.now) n c.args.numbers.now c.requires.inside))
