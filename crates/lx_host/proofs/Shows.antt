-- What a change of what one host shows leaves.
use Rattle.std.proofs.Common.{ℕ, ◌≡◌, eqb, nat_eq, Bool, List, Option, Some, refl, sym, ◌∙◌, arith, inl, inr}
use Rattle.std.proofs.lemmas.Bool.Decides.{eqb_tells}
use Rattle.std.specs.HashMap.{HashMap}
use Rattle.indexmap.specs.IndexMap.{get}
use Rattle.lx_trees.specs.Trees.{Trees}
use Rattle.lx_trees.proofs.NamedTrees.{total-mapped}
use Rattle.lx_host.specs.Hosts.{Host, Face, id_of, changed, changed_at, with_text, with_value, with_ending}
use Rattle.lx_trees.specs.Records.{relabelled}
use Rattle.lx_trees.proofs.Order.{IsOrdered-mapped}
use Rattle.lx_trees.proofs.Records.{record_at-mapped}
use Rattle.lx_host.specs.declared.tag.Name.{Name}
use Rattle.lx_host.specs.declared.linked.Linked.{Linked}
use Rattle.lx_host.specs.declared.linked.Change.TheVariants.{Text, Break}
use Rattle.lx_host.specs.Links.{changed as turned, attributed}
use Rattle.lx_host.specs.Stands.{record_of, Stands}
use Rattle.lx_joints.specs.Changes.{Differs}
use Rattle.lx_joints.proofs.Stands.{records_after}

-- a table with these changes stands for the hosts with what one of them shows changed
pub shown_stands : {S : Type 0} (old new : HashMap ℕ Linked S) (f : Trees Host) (id : ℕ) (face : Face → Face) (change : ℕ → Linked → Linked)
    → ((q : ℕ) (n : Linked) → record_of q (change q n) ≡ relabelled (changed_at id face) (record_of q n)) → Stands old f → Differs change (get nat_eq old) (get nat_eq new)
    → Stands new (changed id face f)
shown_stands old new f id face change same s d = record {
  in_order = IsOrdered-mapped id_of (changed_at id face) (λ a. refl) f s.in_order;
  same = λ q. records_after id_of record_of (get nat_eq old) (get nat_eq new) f change (λ q. relabelled (changed_at id face)) q (s.same q) d (same q)
      ∙ sym (record_at-mapped id_of (changed_at id face) (λ a. refl) f q);
  small = omega (arith, total-mapped (changed_at id face) f, s.small);
}

same_text : (id : ℕ) (text : List ℕ) (q : ℕ) (n : Linked)
    → record_of q (turned (Text text) (eqb q id) n) ≡ relabelled (changed_at id (with_text text)) (record_of q n)
same_text id text q n = elim (eqb_tells q id) [ inl here ↦ rw here.0 refl | inr other ↦ rw other.0 refl ]

same_ending : (id : ℕ) (ending : Bool) (q : ℕ) (n : Linked)
    → record_of q (turned (Break ending) (eqb q id) n) ≡ relabelled (changed_at id (with_ending ending)) (record_of q n)
same_ending id ending q n = elim (eqb_tells q id) [ inl here ↦ rw here.0 refl | inr other ↦ rw other.0 refl ]

same_attribute : (id : ℕ) (name : Name) (value : Option (List ℕ)) (q : ℕ) (n : Linked)
    → record_of q (attributed name value (eqb q id) n) ≡ relabelled (changed_at id (with_value name value)) (record_of q n)
same_attribute id name value q n = elim (eqb_tells q id) [ inl here ↦ rw here.0 refl | inr other ↦ rw other.0 refl ]

module _ {S : Type 0} (old new : HashMap ℕ Linked S) (f : Trees Host) (id : ℕ) (s : Stands old f) where
  pub text_stands : (text : List ℕ) → Differs (λ q. turned (Text text) (eqb q id)) (get nat_eq old) (get nat_eq new) → Stands new (changed id (with_text text) f)
  text_stands text d = shown_stands old new f id (with_text text) (λ q. turned (Text text) (eqb q id)) (same_text id text) s d

  pub ending_stands : (ending : Bool) → Differs (λ q. turned (Break ending) (eqb q id)) (get nat_eq old) (get nat_eq new) → Stands new (changed id (with_ending ending) f)
  ending_stands ending d = shown_stands old new f id (with_ending ending) (λ q. turned (Break ending) (eqb q id)) (same_ending id ending) s d

  pub attribute_stands : (name : Name) (value : Option (List ℕ)) → Differs (λ q. attributed name value (eqb q id)) (get nat_eq old) (get nat_eq new)
      → Stands new (changed id (with_value name value) f)
  attribute_stands name value d = shown_stands old new f id (with_value name value) (λ q. attributed name value (eqb q id)) (same_attribute id name value) s d
