-- The laws of trees whose labels have names, at the ids of hosts, and two more of host trees.
use Rattle.std.proofs.Common.{◌≡◌, ℕ, ◌+◌, Bool, true, false, cond, eqb, [], ◌++◌, Option, None, refl, ap, arith}
use Rattle.lx_trees.specs.Trees.{Trees, nil, tree, joined}
use Rattle.lx_trees.proofs.NamedTrees as trees
pub use Rattle.lx_trees.proofs.NamedTrees.{joined-nil, joined-assoc}
use Rattle.lx_host.specs.Hosts.{Host, Face, id_of, count, without, alone, children_of, inserted, put_below, changed_at, changed}

-- ---- one after another

pub count-joined : (id : ℕ) (s t : Trees Host) → count id (joined s t) ≡ count id s + count id t
count-joined = trees.count-joined id_of

pub without-joined : (id : ℕ) (s t : Trees Host) → without id (joined s t) ≡ joined (without id s) (without id t)
without-joined = trees.without-joined id_of

pub alone-joined : (id : ℕ) (s t : Trees Host) → alone id (joined s t) ≡ joined (alone id s) (alone id t)
alone-joined = trees.alone-joined id_of

pub put_below-joined : (id : ℕ) (before : Option ℕ) (new s t : Trees Host)
    → put_below id before new (joined s t) ≡ joined (put_below id before new s) (put_below id before new t)
put_below-joined = trees.put_below-joined id_of

pub children_of-joined : (id : ℕ) (s t : Trees Host) → children_of id (joined s t) ≡ children_of id s ++ children_of id t
children_of-joined = trees.children_of-joined id_of

pub changed-joined : (id : ℕ) (change : Face → Face) (s t : Trees Host) → changed id change (joined s t) ≡ joined (changed id change s) (changed id change t)
changed-joined id change = trees.mapped-joined (changed_at id change)

pub inserted-None : (new t : Trees Host) → inserted None new t ≡ joined t new
inserted-None new nil = refl
inserted-None new (tree h below rest) = ap (tree h below) (inserted-None new rest)

-- ---- where the id is absent

pub without-absent : (id : ℕ) (t : Trees Host) → count id t ≡ 0 → without id t ≡ t
without-absent = trees.without-absent id_of

pub alone-absent : (id : ℕ) (t : Trees Host) → count id t ≡ 0 → alone id t ≡ nil
alone-absent = trees.alone-absent id_of

pub put_below-absent : (id : ℕ) (before : Option ℕ) (new t : Trees Host) → count id t ≡ 0 → put_below id before new t ≡ t
put_below-absent = trees.put_below-absent id_of

pub children_of-absent : (id : ℕ) (t : Trees Host) → count id t ≡ 0 → children_of id t ≡ []
children_of-absent = trees.children_of-absent id_of

absent_parts : (b : Bool) (m n : ℕ) → cond b 1 0 + m + n ≡ 0 → (b ≡ false) × (m ≡ 0) × (n ≡ 0)
absent_parts true m n e = absurd (omega arith)
absent_parts false m n e = (refl, omega arith, omega arith)

pub changed-absent : (id : ℕ) (change : Face → Face) (t : Trees Host) → count id t ≡ 0 → changed id change t ≡ t
changed-absent id change nil e = refl
changed-absent id change (tree h below rest) e =
    let p = absent_parts (eqb h.id id) (count id below) (count id rest) e in
    rw (p.0, changed-absent id change below p.1, changed-absent id change rest p.2) refl

-- ---- counts after an edit

pub count-without-alone : (q id : ℕ) (t : Trees Host) → count q (without id t) + count q (alone id t) ≡ count q t
count-without-alone = trees.count-without-alone id_of

pub count-changed : (q id : ℕ) (change : Face → Face) (t : Trees Host) → count q (changed id change t) ≡ count q t
count-changed q id change = trees.count-mapped id_of (changed_at id change) (λ _. refl) q
