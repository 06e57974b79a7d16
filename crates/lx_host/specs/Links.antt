-- What of a host and its links a change of a table leaves.
use Rattle.std.specs.Prelude.{ℕ, Bool, if◌then◌else◌, List, Option, Some}
use Rattle.lx_joints.specs.declared.links.Links.{Links}
use Rattle.lx_host.specs.Words.{with_attribute}
use Rattle.lx_host.specs.declared.tag.Name.{Name}
use Rattle.lx_host.specs.declared.linked.Linked.{Linked}
use Rattle.lx_host.specs.declared.linked.Change.{Change}
use Rattle.lx_host.specs.declared.linked.Change.TheVariants.{Text, Break}

-- the links of a host
abbrev pub links_of : Linked → Links
links_of n = record { parent = n.parent; prev = n.prev; next = n.next; first = n.first; last = n.last; size = n.size }

-- a host with these links
abbrev pub with_links : Links → Linked → Linked
with_links l n =
    record n { parent = l.parent; prev = l.prev; next = l.next; first = l.first; last = l.last; size = l.size }

-- a host after a change of what it shows, if it is the one that changes
abbrev pub changed : Change → Bool → Linked → Linked
changed (Text text) here n = record n { text = (if here then Some text else n.text) }
changed (Break ending) here n = record n { ending = (if here then ending else n.ending) }

-- a host with an attribute given or taken away, if it is the one
abbrev pub attributed : Name → Option (List ℕ) → Bool → Linked → Linked
attributed name value here n = record n { attrs = (if here then with_attribute name value n.attrs else n.attrs) }
