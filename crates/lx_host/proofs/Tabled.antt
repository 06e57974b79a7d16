-- The ids of a table are those of the hosts for which it stands.
use Rattle.std.proofs.Common.{ℕ, ◌≡◌, nat_eq, List, [], ◌∷◌, is_some, refl, sym, ap, ◌∙◌, arith, inl, inr}
use Rattle.std.proofs.lemmas.Bool.Decides.{eqb_tells}
use Rattle.std.specs.HashMap.{HashMap}
use Rattle.std.specs.Map.{lookup, keys_of}
use Rattle.indexmap.specs.IndexMap.{keys}
use Rattle.lx_trees.specs.Trees.{Trees}
use Rattle.lx_trees.specs.Siblings.{is_among}
use Rattle.lx_host.specs.Hosts.{Host, id_of, has}
use Rattle.lx_host.specs.Stands.{record_of, Stands}
use Rattle.lx_host.specs.declared.linked.Linked.{Linked}
use Rattle.lx_joints.proofs.Stands.{is_some-map}
use Rattle.lx_trees.proofs.Records.{is_some-record_at}

is_among-keys : (q : ℕ) (es : List (ℕ × Linked)) → is_among q (keys_of es) ≡ is_some (lookup (nat_eq q) es)
is_among-keys q [] = refl
is_among-keys q (e ∷ es) = elim (eqb_tells q e.0) [
  | inl here ↦ grind (arith, here, eqb_tells e.0 q)
  | inr other ↦ grind (arith, other, eqb_tells e.0 q, is_among-keys q es)
]

pub ids_are : {S : Type 0} (m : HashMap ℕ Linked S) (f : Trees Host) (q : ℕ) → Stands m f → is_among q (keys m) ≡ has q f
ids_are m f q s =
    is_among-keys q m.entries ∙ sym (is_some-map (record_of q) (lookup (nat_eq q) m.entries))
    ∙ ap is_some (s.same q) ∙ is_some-record_at id_of f q
