-- Patches: the members of nodes' fields, as steps and rules set them.
use Rattle.std.specs.Prelude.{ℕ, List, [], ◌∷◌, chars, Option, None, Some, option_map, option_and_then}
use Rattle.std.specs.Option.{option_zip}
use Rattle.serde_json.specs.Data.{Data, Members, no_members, member}
use Rattle.serde_json.specs.Find.{as_object}
use Rattle.lx_step.specs.declared.member.Member.{Member}
use Rattle.lx_step.specs.declared.member.Member.TheVariants.{Other}
use Rattle.lx_fields.specs.declared.words.Name.{Name}
use Rattle.lx_fields.specs.declared.words.Name.TheVariants as name
use Rattle.lx_fields.specs.Members.{settable}
use Rattle.lx_fields.specs.Values.{word_in, named, number_within}
use Rattle.lx_fields.specs.Words.{names, levels, list_types}

-- Members that scripts don't set have their ranges too: a heading's tag, a list's type and an item's value. Any other
-- name takes any value.
unfoldable pub patch_member : Option Name → List ℕ → Data → Option Member
patch_member None text d = Some (Other (chars text))
patch_member (Some name.Tag) text d = option_map (λ level. Other (chars text)) (named levels d)
patch_member (Some name.ListType) text d = option_map (λ type. Other (chars text)) (named list_types d)
patch_member (Some name.Value) text d = option_map (λ value. Other (chars text)) (number_within 0 1200000 d)
patch_member (Some known) text d = settable known d

-- the members of a patch, each of which is read
abbrev pub patch_members : Members → Option (List Member)
patch_members no_members = Some []
patch_members (member text d rest) = option_map (λ p. p.0 ∷ p.1) (option_zip (patch_member (word_in names text) text d) (patch_members rest))

-- an object, each of whose members is read, in byte order of their names
abbrev pub patch_of : Data → Option (List Member)
patch_of d = option_and_then patch_members (as_object d)
