-- Host trees, and what an operation does to one.
use Rattle.std.specs.Prelude.{ℕ, ◌+◌, ◌<◌, ◌==◌, ◌≡◌, ◌&&◌, if◌then◌else◌, Bool, true, false, not, nat_lt, IsTrue, List, [], ◌∷◌, Option, None, Some}
use Rattle.std.specs.List.{list_any}
use Rattle.lx_node.specs.Limits.{last_u32}
use Rattle.lx_trees.specs.Trees.{Trees, nil, tree, joined}
use Rattle.lx_trees.specs.NamedTrees as named
use Rattle.lx_host.specs.Words.{with_attribute}
use Rattle.lx_host.specs.declared.tag.Tag.{Tag}
use Rattle.lx_host.specs.declared.tag.Name.{Name}
use Rattle.lx_host.specs.declared.op.Op.{Op}
use Rattle.lx_host.specs.declared.op.Op.TheVariants.{Create, Place, Drop, Text, Attr, Break}

-- what a host shows, beside its children: a node's key, an element with its attributes, a text or none, and whether a
-- line break ends it
pub record Face : Type 0 where
  pub key : ℕ
  pub tag : Tag
  pub attrs : List (Name × List ℕ)
  pub text : Option (List ℕ)
  pub ending : Bool

-- a host: its id, and what it shows
pub record Host : Type 0 where
  pub id : ℕ
  pub face : Face

-- hosts and the next id; the first tree is host 0's, and those after it aren't placed yet
pub record HostTree : Type 0 where
  pub hosts : Trees Host
  pub next : ℕ

-- a host with nothing below it
abbrev pub one_host : ℕ → Face → Trees Host
one_host id face = tree (record { id = id; face = face }) nil nil

-- what hosts show, without their ids
abbrev pub shape_of : Trees Host → Trees Face
shape_of nil = nil
shape_of (tree host below rest) = tree host.face (shape_of below) (shape_of rest)

-- ---- hosts by their ids

-- the id of a host, which is its name among trees
abbrev pub id_of : Host → ℕ
id_of host = host.id

-- how many hosts have the id
abbrev pub count : ℕ → Trees Host → ℕ
count id hosts = named.count id_of id hosts

-- whether a host has the id
abbrev pub has : ℕ → Trees Host → Bool
has id hosts = named.has id_of id hosts

-- the hosts without the one of that id, and without all below it
abbrev pub without : ℕ → Trees Host → Trees Host
without id hosts = named.without id_of id hosts

-- the host of that id alone, with all below it
abbrev pub alone : ℕ → Trees Host → Trees Host
alone id hosts = named.alone id_of id hosts

-- the ids of the first hosts of these trees
abbrev pub ids_of : Trees Host → List ℕ
ids_of hosts = named.names id_of hosts

-- the ids of a host's children
abbrev pub children_of : ℕ → Trees Host → List ℕ
children_of id hosts = named.children_of id_of id hosts

-- trees with others before the one whose host has that id, or at the end
abbrev pub inserted : Option ℕ → Trees Host → Trees Host → Trees Host
inserted before new hosts = named.inserted id_of before new hosts

-- hosts with trees put among the children of the host of that id
abbrev pub put_below : ℕ → Option ℕ → Trees Host → Trees Host → Trees Host
put_below parent before new hosts = named.put_below id_of parent before new hosts

-- ---- what a host shows, changed

-- what a host shows, with this text
abbrev pub with_text : List ℕ → Face → Face
with_text text face =
    record { key = face.key; tag = face.tag; attrs = face.attrs; text = Some text; ending = face.ending }

-- what a host shows, with the attribute given this value, or taken away
abbrev pub with_value : Name → Option (List ℕ) → Face → Face
with_value name value face =
    record { key = face.key; tag = face.tag; attrs = with_attribute name value face.attrs; text = face.text; ending = face.ending }

-- what a host shows, with a line break at its end, or without
abbrev pub with_ending : Bool → Face → Face
with_ending ending face =
    record { key = face.key; tag = face.tag; attrs = face.attrs; text = face.text; ending = ending }

-- a host, with what it shows changed if it has this id
abbrev pub changed_at : ℕ → (Face → Face) → Host → Host
changed_at id change host =
    record { id = host.id; face = if host.id == id then change host.face else host.face }

-- hosts, with what the one of that id shows changed
abbrev pub changed : ℕ → (Face → Face) → Trees Host → Trees Host
changed id change hosts = named.mapped (changed_at id change) hosts

-- ---- operations

-- whether a child may be put before this among the children with these ids
abbrev pub fits_before : ℕ → Option ℕ → List ℕ → Bool
fits_before child None ids = true
fits_before child (Some before) ids = list_any (λ id. id == before) ids && not (before == child)

-- whether an operation fits now: only the next id is created, host 0 is neither placed nor dropped, no host comes below
-- itself, and a host before which one is placed is another child of the parent
unfoldable pub fits : Op → HostTree → Bool
fits (Create id key tag attrs text ending) w = (id == w.next) && nat_lt w.next last_u32
fits (Place parent child before) w =
    not (child == 0) && has child w.hosts && has parent w.hosts && not (has parent (alone child w.hosts))
    && fits_before child before (children_of parent w.hosts)
fits (Drop id) w = not (id == 0) && has id w.hosts
fits (Text id text) w = has id w.hosts
fits (Attr id name value) w = has id w.hosts
fits (Break id ending) w = has id w.hosts

-- what an operation makes of a host tree that it fits
unfoldable pub effect : Op → HostTree → HostTree
effect (Create id key tag attrs text ending) w =
    record {
      hosts = joined w.hosts (one_host id (record { key = key; tag = tag; attrs = attrs; text = text; ending = ending }));
      next = w.next + 1;
    }
effect (Place parent child before) w =
    record { hosts = put_below parent before (alone child w.hosts) (without child w.hosts); next = w.next }
effect (Drop id) w = record { hosts = without id w.hosts; next = w.next }
effect (Text id text) w = record { hosts = changed id (with_text text) w.hosts; next = w.next }
effect (Attr id name value) w = record { hosts = changed id (with_value name value) w.hosts; next = w.next }
effect (Break id ending) w = record { hosts = changed id (with_ending ending) w.hosts; next = w.next }

-- the operations lead from the host tree v to w: each fits in turn, and w is what they make
abbrev pub Leads : HostTree → List Op → HostTree → Type 0
Leads v [] w = w ≡ v
Leads v (op ∷ ops) w = (mid : HostTree) × IsTrue (fits op v) × (mid ≡ effect op v) × Leads mid ops w

-- each of the operations fits in its turn
abbrev pub FitInTurn : HostTree → List Op → Type 0
FitInTurn v [] = Unit {0}
FitInTurn v (op ∷ ops) = IsTrue (fits op v) × FitInTurn (effect op v) ops

-- what shows a root without children
abbrev pub root_face : Face
root_face = record { key = 0; tag = Tag.Div; attrs = []; text = None; ending = false }

-- a new host tree: host 0 alone, which shows the root
abbrev pub new_tree : HostTree
new_tree = record { hosts = one_host 0 root_face; next = 1 }

-- no id occurs twice, and each is below the next one
pub record IsNumbered (w : HostTree) : Type 0 where
  pub once : (id : ℕ) → count id w.hosts < 2
  pub below : (id : ℕ) → w.next < id + 1 → count id w.hosts ≡ 0
