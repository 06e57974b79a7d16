-- What a slice is written for is a copy.
use Rattle.std.proofs.Common.{◌≡◌, true, false, ℕ, Option, None, Some, Result, Ok, Err, ap, sym, subst}
use Rattle.std.specs.Prelude.{IfOk, IfSome}
use Rattle.serde_json.specs.declared.value.Value.{Value}
use Rattle.lx_select.specs.declared.selection.Selection.{Selection}
use Rattle.lx_forest.specs.Forest.{Forest}
use Rattle.lx_forest.specs.Lookups.{is_attached, IsForest}
use Rattle.lx_links.specs.Stands.{Sound}
use Rattle.lx_blocks.specs.declared.ranges.Ranged.{Ranged}
use Rattle.lx_blocks.specs.Ranges.{shown_range}
use Rattle.lx_json.specs.GivenBack.{AreGivenBack}
use Rattle.lx_clip.specs.Slices.{range_covers, covers_if, sliced}
use Rattle.lx_clip.specs.Copies.{IsCopy}

-- links with a node below the root are in order
attached_order : (f : Forest) (q : ℕ) → Sound f → is_attached f q ≡ true → IsForest f
attached_order f q s there = s.in_order (λ no. let P : Forest → Type 0 = λ g. is_attached g q ≡ true in let h : false ≡ true = subst P no there in cc)

covers_copied : (f : Forest) (s : Selection) (q : ℕ) (o : Option Forest) → sliced f s ≡ o → is_attached f q ≡ true → IfSome o (λ c. AreGivenBack c)
    → IfSome o (λ c. Sound f) → IfSome o IsCopy
covers_copied f s q None is there given sound = tt
covers_copied f s q (Some c) is there given sound =
    record { tree = f; selection = s; order = attached_order f q sound there; held = sound.held; covered = is; back = given }

range_sliced : (f : Forest) (s : Selection) (x : Ranged) → shown_range s ≡ Some x → sliced f s ≡ range_covers f x
unfolding sliced
range_sliced f s x shown = ap (covers_if f) shown

pub copied : {E : Type 0} (r : Result (Option Value) E) (f : Forest) (s : Selection) (x : Ranged) → shown_range s ≡ Some x
    → is_attached f x.anchor.key ≡ true → IfOk r (λ v. IfSome (range_covers f x) (λ c. AreGivenBack c))
    → IfOk r (λ v. IfSome (range_covers f x) (λ c. Sound f)) → IfOk r (λ v. IfSome (sliced f s) IsCopy)
copied (Err e) f s x shown there given sound = tt
copied (Ok v) f s x shown there given sound =
    let is = range_sliced f s x shown in
    subst (λ o. IfSome o IsCopy) (sym is) (covers_copied f s x.anchor.key (range_covers f x) is there given sound)
