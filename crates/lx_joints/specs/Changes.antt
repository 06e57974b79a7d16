-- What an edit changes in the entries of a table, and in their links.
use Rattle.std.specs.Prelude.{ℕ, ◌+◌, ◌-◌, ◌<◌, ◌^◌, ◌≡◌, ◌==◌, ◌&&◌, Bool, is_none, if◌then◌else◌, Option, None, Some, option_map}
use Rattle.lx_trees.specs.Siblings.{is_named}
use Rattle.lx_joints.specs.declared.links.Links.{Links}
use Rattle.lx_joints.specs.declared.links.Change.{Change}
use Rattle.lx_joints.specs.declared.links.Change.TheVariants.{Next, Prev, Place, Left, Joined}

-- links after a change, if they are those that change
abbrev pub changed : Change → Bool → Links → Links
changed (Next next) here l = record l { next = (if here then next else l.next) }
changed (Prev prev) here l = record l { prev = (if here then prev else l.prev) }
changed (Place parent prev next) here l =
    record l {
      parent = (if here then parent else l.parent);
      prev = (if here then prev else l.prev);
      next = (if here then next else l.next);
    }
changed (Left prev next) here l =
    record l {
      first = (if here && is_none prev then next else l.first);
      last = (if here && is_none next then prev else l.last);
      size = (if here then l.size - 1 else l.size);
    }
changed (Joined name behind before) here l =
    record l {
      first = (if here && is_none behind then Some name else l.first);
      last = (if here && is_none before then Some name else l.last);
      size = (if here then l.size + 1 else l.size);
    }

-- the number of children stays below 2 ^ 32
abbrev pub Fits : Change → Links → Type 0
Fits (Joined name behind before) l = l.size + 1 < 2 ^ 32
Fits _ l = Unit {0}

-- an entry with its links changed
abbrev pub on_links : {E : Type 0} → (E → Links) → (Links → E → E) → (ℕ → Links → Links) → ℕ → E → E
on_links links relinked change q e = relinked (change q (links e)) e

-- one table is the other with these changes, at each name that the other has
pub record Differs {E : Type 0} (change : ℕ → E → E) (old new : ℕ → Option E) : Type 0 where
  pub each : (q : ℕ) → new q ≡ option_map (change q) (old q)

-- the links of an entry once the one of that name left its parent and its neighbours
abbrev pub unlinked : ℕ → ℕ → Option ℕ → Option ℕ → ℕ → Links → Links
unlinked name parent prev next q l =
    record {
      parent = (if q == name then None else l.parent);
      prev = (if q == name then None else if is_named next q then prev else l.prev);
      next = (if q == name then None else if is_named prev q then next else l.next);
      first = (if q == parent && is_none prev then next else l.first);
      last = (if q == parent && is_none next then prev else l.last);
      size = (if q == parent then l.size - 1 else l.size);
    }

-- the links of an entry once the one of that name came below a parent, between these neighbours
abbrev pub linked_in : ℕ → ℕ → Option ℕ → Option ℕ → ℕ → Links → Links
linked_in name parent behind before q l =
    record {
      parent = (if q == name then Some parent else l.parent);
      prev = (if q == name then behind else if is_named before q then Some name else l.prev);
      next = (if q == name then before else if is_named behind q then Some name else l.next);
      first = (if q == parent && is_none behind then Some name else l.first);
      last = (if q == parent && is_none before then Some name else l.last);
      size = (if q == parent then l.size + 1 else l.size);
    }
