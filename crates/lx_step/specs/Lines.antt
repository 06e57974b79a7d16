-- What the tags of lines say of how their commit is recorded.
use Rattle.std.specs.Prelude.{false, ◌||◌}
use Rattle.lx_step.specs.declared.line.Tags.{Tags}

-- the tags of a line that says nothing
abbrev pub untagged : Tags
untagged = record { historic = false; merge = false; push = false }

-- what the tags of two lines say together
abbrev pub both_tags : Tags → Tags → Tags
both_tags a b = record { historic = a.historic || b.historic; merge = a.merge || b.merge; push = a.push || b.push }
