use Rattle.std.proofs.Common.{rules}
use Rattle.lx_clip.specs.Slices.{range_covers}
use Rattle.lx_clip.proofs.Alike.{whole_slice}
use Rattle.lx_clip.proofs.Copied.{copied}
use Rattle.lx_clip.proofs.slicing.slice.Goals as goal

pub returns-in-Some-clause-whole : goal.returns-in-Some-clause-whole
returns-in-Some-clause-whole c = whole_slice c.slice_of.result (range_covers c.args.state.now.links c.in-Some.range) c.slice_of.ensures.sliced

pub returns-in-Some-clause-copy : goal.returns-in-Some-clause-copy
returns-in-Some-clause-copy c =
    copied c.slice_of.result c.args.state.now.links c.args.state.now.selection c.in-Some.range (search rules) (search rules) c.slice_of.ensures.told
    c.slice_of.ensures.sound
