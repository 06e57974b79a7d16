-- What each operation owes, one after another.
use Rattle.std.proofs.Common.{◌+◌, ◌≤◌, ℕ, List, [], ◌∷◌, ◌++◌, Option, None, subst, arith}
use Rattle.std.specs.List.{AllByRecursion}
use Rattle.lx_trees.specs.Trees.{nil, tree}
use Rattle.lx_trees.specs.NamedTrees.{total}
use Rattle.lx_node.specs.declared.kind.Kind.{Kind}
use Rattle.lx_host.specs.declared.op.Op.{Op}
use Rattle.lx_host.specs.declared.op.Op.TheVariants.{Place}
use Rattle.lx_host.specs.Hosts.{HostTree, effect, Leads}
use Rattle.lx_forest.specs.Forest.{Label, Forest}
use Rattle.lx_reconcile.specs.Allowed.{AllWriteAnew, WritesAnew}
use Rattle.lx_render.specs.Render.{last_kind}
use Rattle.lx_reconcile.specs.Created.{create_op, creation, creations}

pub each_append : (P : Op → Type 0) (a b : List Op) → AllByRecursion P a → AllByRecursion P b → AllByRecursion P (a ++ b)
each_append P [] b first then = then
each_append P (op ∷ a) b first then = (first.0, each_append P a b first.1 then)

-- ---- operations that write what isn't there

pub writes_append : (a b : List Op) (u v : HostTree) → Leads u a v → AllWriteAnew u a → AllWriteAnew v b → AllWriteAnew u (a ++ b)
writes_append [] b u v leads first then = subst (λ x. AllWriteAnew x b) leads then
writes_append (op ∷ a) b u v leads first then = (first.0, writes_append a b (effect op u) v (subst (λ x. Leads x a v) leads.2 leads.3) first.1 then)

pub quiet_writes : (ops : List Op) (w : HostTree) → AllByRecursion (λ op. (w : HostTree) → WritesAnew w op) ops → AllWriteAnew w ops
quiet_writes [] w quiet = tt
quiet_writes (op ∷ ops) w quiet = (quiet.0 w, quiet_writes ops (effect op w) quiet.1)

-- ---- the operations that make hosts

pub creations_each : (P : Op → Type 0) (low : ℕ) → ((id : ℕ) (label : Label) (last : Option Kind) → low ≤ id → P (create_op id label last))
    → ((parent id : ℕ) → low ≤ id → P (Place parent id None))
    → (parent id : ℕ) (f : Forest) → low ≤ id → AllByRecursion P (creations parent id f)
creations_each P low creates places parent id nil from = tt
creations_each P low creates places parent id (tree label below rest) from = (
  creates id label (last_kind below) from,
  each_append P (creations id (id + 1) below) (Place parent id None ∷ creations parent (id + 1 + total below) rest)
      (creations_each P low creates places id (id + 1) below (omega (arith, from)))
      (places parent id from, creations_each P low creates places parent (id + 1 + total below) rest (omega (arith, from))),
)

pub creation_each : (P : Op → Type 0) (low : ℕ) → ((id : ℕ) (label : Label) (last : Option Kind) → low ≤ id → P (create_op id label last))
    → ((parent id : ℕ) → low ≤ id → P (Place parent id None))
    → (id : ℕ) (label : Label) (below : Forest) → low ≤ id → AllByRecursion P (creation id label below)
creation_each P low creates places id label below from =
    (creates id label (last_kind below) from, creations_each P low creates places id (id + 1) below (omega (arith, from)))

-- they write nothing, nor does the operation that places the host
pub creation_writes : (id : ℕ) (label : Label) (below : Forest) (parent : ℕ) (before : Option ℕ) (w : HostTree)
    → AllWriteAnew w (creation id label below ++ Place parent id before ∷ [])
creation_writes id label below parent before w =
    let P : Op → Type 0 = λ op. (w : HostTree) → WritesAnew w op in
    quiet_writes (creation id label below ++ Place parent id before ∷ []) w
    (each_append P (creation id label below) (Place parent id before ∷ [])
    (creation_each P 0 (λ id label last from w. tt) (λ parent id from w. tt) id label below (omega arith)) (λ w. tt, tt))
