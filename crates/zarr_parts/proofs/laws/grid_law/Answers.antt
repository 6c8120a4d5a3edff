use Rattle.parts_subsets.proofs.GridLaws.{subchunk_of_inside, position_of_inside, joined_split, joined_inside, subchunk_of_joined, position_of_joined}
use Rattle.zarr_parts.proofs.laws.grid_law.Goals as goal

pub returns : goal.returns
returns c =
    let shape = c.args._shape.now in
    let sub = c.args._sub.now in
    record {
      subchunk_inside = λ point h. subchunk_of_inside point shape sub c.requires h;
      position_inside = λ point h. position_of_inside point shape sub c.requires h;
      joined_parts = λ point h. joined_split point shape sub c.requires h;
      joined_inside = λ subchunk position h i. joined_inside subchunk shape sub position c.requires h i;
      subchunk_joined = λ subchunk position h i. subchunk_of_joined subchunk shape sub position h i;
      position_joined = λ subchunk position h i. position_of_joined subchunk shape sub position c.requires h i;
    }
