-- What is left where the detached nodes are taken out.
use Rattle.std.specs.Prelude.{T, map}
use Rattle.std.proofs.Common.{ℕ, ◌≡◌, ◌+◌, ◌<◌, Bool, true, false, not, cond, eqb, ◌&&◌, ◌||◌, List, [], ◌∷◌, length, take, get_or, Option, None, Some, option_map, is_some, inl, inr, refl, sym, ap, ◌∙◌, arith}
use Rattle.std.specs.Ordering.{nat_cmp, eq_by_cmp, is_lt, is_eq}
use Rattle.std.specs.declared.cmp.Ordering.{Ordering}
use Rattle.std.specs.declared.cmp.Ordering.TheVariants.{Less, Equal, Greater}
use Rattle.std.specs.Cmp.{unsigned_tied}
use Rattle.std.specs.List.{list_any}
use Rattle.std.specs.FinMap.{get, keys, remove, contains_key-keys, is_sorted, entries, entries_sorted}
use Rattle.std.proofs.lemmas.List.{take_more}
use Rattle.std.proofs.lemmas.Bool.{cases_Bool}
use Rattle.std.proofs.lemmas.Bool.Decides.{eqb_tells}
use Rattle.lx_trees.specs.Siblings.{is_among, NoRepeats}
use Rattle.lx_trees.proofs.Siblings.{is_among-append}
use Rattle.lx_node.specs.declared.node.Node.{Node}
use Rattle.lx_forest.specs.Forest.{Forest}
use Rattle.lx_forest.specs.Lookups.{has, is_attached}
use Rattle.lx_forest.specs.Edits.{drop_detached}
use Rattle.lx_forest.specs.Records.{Record, StandsFor, record_at}
use Rattle.lx_forest.proofs.Edits.{total-drop_detached-le}
use Rattle.lx_forest.proofs.Order.{IsForest-drop_detached}
use Rattle.lx_forest.proofs.Records.{record_at-drop_detached, is_some-record_at}
use Rattle.lx_node.specs.Kinds.{may_hold}
use Rattle.lx_forest.proofs.Suited.{IsSuited-drop_detached}
use Rattle.lx_forest.proofs.Held.{IsHeld-drop_detached}
use Rattle.lx_links.specs.Stands.{Nodes, Holds, records, record_of}
use Rattle.lx_links.proofs.Maps.{remove_at}
use Rattle.lx_links.proofs.Seen.{is_some-map}
use Rattle.lx_links.proofs.Up.{not_within}

turned : (x q : ℕ) → eqb q x ≡ eqb x q
turned x q = grind (arith, eqb_tells q x, eqb_tells x q)

same_any : (q : ℕ) (xs : List ℕ) → list_any (eq_by_cmp nat_cmp q) xs ≡ is_among q xs
same_any q [] = refl
same_any q (x ∷ xs) = ap (λ b. b || list_any (eq_by_cmp nat_cmp q) xs) (unsigned_tied q x ∙ turned x q) ∙ ap (λ b. eqb x q || b) (same_any q xs)

pub keys_in : (m : Nodes) (f : Forest) (q : ℕ) → StandsFor (records m) f → is_among q (keys m) ≡ has q f
keys_in m f q s =
    sym (same_any q (keys m)) ∙ sym (contains_key-keys m q) ∙ sym (is_some-map (record_of q) (get m q)) ∙ ap is_some (s.same q) ∙ is_some-record_at f q

-- the keys of a map rise, so none occurs twice
both : (a b : Bool) → T (a && b) → T a × T b
both true b h = (tt, h)
both false b h = absurd h

but_the_third : (a b c d : Bool) → T ((a && b) && (c && d)) → T a × T (b && d)
but_the_third true true true d h = (tt, h)
but_the_third true true false d h = absurd h
but_the_third true false c d h = absurd h
but_the_third false b c d h = absurd h

not_tied : (r : Ordering) → T (is_lt r) → is_eq r ≡ false
not_tied Less h = refl
not_tied Equal h = absurd h
not_tied Greater h = refl

first_two : (k : ℕ) (n : Node) (e : ℕ × Node) (es : List (ℕ × Node)) → T (is_sorted nat_cmp ((k, n) ∷ e ∷ es))
    → T (is_lt (nat_cmp k e.0)) × T (is_sorted nat_cmp ((k, n) ∷ es))
first_two k n e es h = but_the_third _ _ _ _ h

risen : (k : ℕ) (n : Node) (es : List (ℕ × Node)) → T (is_sorted nat_cmp ((k, n) ∷ es)) → is_among k (map (λ e. e.0) es) ≡ false
risen k n [] h = refl
risen k n (e ∷ es) h =
    let lower = first_two k n e es h in
    let other : eqb k e.0 ≡ false = sym (unsigned_tied k e.0) ∙ not_tied (nat_cmp k e.0) lower.0 in
    grind (arith, other, turned k e.0, risen k n es lower.1)

once_sorted : (es : List (ℕ × Node)) → T (is_sorted nat_cmp es) → NoRepeats (map (λ e. e.0) es)
once_sorted [] h = tt
once_sorted (e ∷ es) h = (risen e.0 e.1 es h, once_sorted es (both _ _ h).1)

pub NoRepeats-keys : (m : Nodes) → NoRepeats (keys m)
NoRepeats-keys m = once_sorted (entries m) (entries_sorted m)

-- ---- the loops

one_more : (xs : List ℕ) (i x q : ℕ) → i < length xs → x ≡ get_or xs i x → is_among q (take (i + 1) xs) ≡ (is_among q (take i xs) || (eqb x q || false))
one_more xs i x q h e =
    ap (is_among q) (take_more xs i x h) ∙ is_among-append q (take i xs) (get_or xs i x ∷ []) ∙ ap (λ y. is_among q (take i xs) || (eqb y q || false)) (sym e)

gone_one : (a : Bool) (x q : ℕ) (o r : Option Node) → o ≡ cond a None r → cond (eqb q x) None o ≡ cond (a || (eqb x q || false)) None r
gone_one a x q o r e = elim (eqb_tells x q) [
  | inl same ↦ grind (arith, same.0, turned x q, cases_Bool a)
  | inr other ↦ grind (arith, other.0, turned x q, e, cases_Bool a)
]

pub gone_more : (start old new : Nodes) (xs : List ℕ) (i x q : ℕ) → get old q ≡ cond (is_among q (take i xs)) None (get start q) → i < length xs
    → x ≡ get_or xs i x → new ≡ remove old x → get new q ≡ cond (is_among q (take (i + 1) xs)) None (get start q)
gone_more start old new xs i x q e h at taken =
    ap (λ m. get m q) taken ∙ remove_at old x q ∙ gone_one (is_among q (take i xs)) x q (get old q) (get start q) e
    ∙ ap (λ b. cond b None (get start q)) (sym (one_more xs i x q h at))

-- ---- what stands for the forest afterwards

left_over : (f : Forest) (q : ℕ) (o : Option Node) (r : Option Record) (t a : Bool) → option_map (record_of q) o ≡ r → is_some r ≡ t → (t ≡ false → a ≡ false)
    → option_map (record_of q) (cond (t && not a) None o) ≡ cond a r None
left_over f q o r true true e there h = e
left_over f q o r true false e there h = refl
left_over f q o r false true e there h = let no : true ≡ false = h refl in cc
left_over f q None r false false e there h = refl
left_over f q (Some n) r false false e there h = let no : true ≡ false = ap is_some e ∙ there in cc

pub swept_records : (old new : Nodes) (f : Forest) (xs : List ℕ) → StandsFor (records old) f → ((q : ℕ) → is_among q xs ≡ (has q f && not (is_attached f q)))
    → ((q : ℕ) → get new q ≡ cond (is_among q xs) None (get old q)) → StandsFor (records new) (drop_detached f)
swept_records old new f xs s found gone = record {
  in_order = IsForest-drop_detached f s.in_order;
  same = λ q. ap (option_map (record_of q)) (gone q ∙ ap (λ b. cond b None (get old q)) (found q))
      ∙ left_over f q (get old q) (record_at f q) (has q f) (is_attached f q) (s.same q) (is_some-record_at f q) (not_within f 0 q)
      ∙ sym (record_at-drop_detached f q s.in_order);
  small = omega (arith, total-drop_detached-le f, s.small);
}

pub is_among-keys : (m : Nodes) (f : Forest) (q : ℕ) → Holds m f → is_among q (keys m) ≡ has q f
is_among-keys m f q h = keys_in m f q h.stands

pub swept_stands : (old new : Nodes) (f : Forest) (xs : List ℕ) → Holds old f → ((q : ℕ) → is_among q xs ≡ (has q f && not (is_attached f q)))
    → ((q : ℕ) → get new q ≡ cond (is_among q xs) None (get old q)) → Holds new (drop_detached f)
swept_stands old new f xs h found gone =
    record { stands = swept_records old new f xs h.stands found gone; held = IsHeld-drop_detached may_hold f h.stands.in_order h.held; suited = IsSuited-drop_detached f h.stands.in_order h.suited }
