use Rattle.std.proofs.Common.{◌∙◌, arith, take}
use Rattle.std.proofs.lemmas.List.{length-set, take_more_set}
use Rattle.parts_row_major.proofs.NumberingLaws.{stride_divided, point_more}
use Rattle.parts_row_major.proofs.numbering.write_point.Goals as goal

pub loop-axis-preserved : goal.loop-axis-preserved
loop-axis-preserved c =
    let loop = c.loop-axis in
    let known = loop.invariant in
    let shape = c.args.shape.now in
    let divided = stride_divided shape loop.axis loop.stride (omega arith) known.some_left known.count_left in
    record {
      axes = length-set loop.point loop.axis _ ∙ known.axes;
      some_left = rw divided.0 divided.1;
      count_left = divided.0;
      point_so_far =
          rw (take_more_set loop.point loop.axis _ (omega arith), point_more (take loop.axis loop.point) loop.rest shape loop.axis _ (omega arith) divided.0) known.point_so_far;
    }
