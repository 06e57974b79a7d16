-- All that is said of wrapping, unwrapping, moving children and replacing.
use Rattle.std.proofs.Common.{◌≡◌, ◌∙◌, ℕ, [], ◌∷◌, Some, sym, subst}
use Rattle.std.proofs.lemmas.Option.{same_Some}
use Rattle.lx_forest.specs.Lookups.{parent_of, children_of}
use Rattle.lx_draft.specs.Working.{Working}
use Rattle.lx_edit_laws.specs.Reading.{in_place_of}
use Rattle.lx_edit_laws.specs.Wraps.{IsWrapped, WrapsAreTold}
use Rattle.lx_edit_laws.proofs.WrapBack.{was_wrapped, outer_children, outer_place, read_wrapped, unwrapped_again}
use Rattle.lx_edit_laws.proofs.WrapTold.{went_all, replaced_behind, read_unwrapped, unwrapped_in_place}

-- the parent is the one that is asked about
place_told : (k outer : ℕ) (w v : Working) (p : ℕ) → IsWrapped k outer w v → parent_of w.forest k ≡ Some p
    → children_of v.forest p ≡ in_place_of k (outer ∷ []) (children_of w.forest p)
place_told k outer w v p e up =
    let s = was_wrapped k outer w v e in
    let same : s.0 ≡ p = same_Some s.0 p (sym s.1.may.up ∙ up) in
    subst (λ q. children_of v.forest q ≡ in_place_of k (outer ∷ []) (children_of w.forest q)) same (outer_place w.forest v.forest s.0 k outer s.1)

pub told-wraps : WrapsAreTold
told-wraps = record {
  within = λ k outer w v e. let s = was_wrapped k outer w v e in outer_children w.forest v.forest s.0 k outer s.1;
  place = place_told;
  wrap_read = λ k outer w v b e other. let s = was_wrapped k outer w v e in read_wrapped w.forest v.forest s.0 k outer s.1 b other;
  unwrap_read = λ k w v b ready e other. read_unwrapped k w v b ready.in_order e other;
  unwrapped = λ k p w v ready e up some. unwrapped_in_place k p w v ready.in_order e up some;
  undone = λ k outer w v u e back. let s = was_wrapped k outer w v e in unwrapped_again w.forest s.0 k outer v u s.1 back;
  moved = λ from to w v ready apart e. (went_all from to w v ready.in_order apart e).over.there;
  replaced = λ k with w v ready e. replaced_behind k with w v ready.in_order e;
}
