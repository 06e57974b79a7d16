-- Numbering leaves each item with its number, whatever was there.
use Rattle.std.proofs.Common.{◌≡◌, ◌∙◌, ℕ, ◌+◌, Bool, true, false, cond, not, List, [], ◌∷◌, ◌++◌, length, take, Option, None, Some, Result, Ok, Err, refl, sym, ap, subst, append_assoc, arith, inl, inr, ◌⊎◌, eqb}
use Rattle.std.specs.Prelude.{option_map, is_some, unwrap_or}
use Rattle.std.specs.List.{slice_get, filter, count_by}
use Rattle.std.proofs.lemmas.Bool.{cases_Bool}
use Rattle.std.proofs.lemmas.Bool.Decides.{eqb_tells}
use Rattle.std.proofs.Math.Seq.{take-append_seam}
use Rattle.std.proofs.lemmas.List.Sums.{sum_by-append}
use Rattle.lx_trees.specs.Siblings.{index_in, is_among, first_of}
use Rattle.lx_node.specs.Kinds.{is_list}
use Rattle.lx_trees.proofs.Positions.{index_in-slice_get, is_among-slice_get}
use Rattle.lx_trees.proofs.Siblings.{is_named_tells}
use Rattle.lx_node.specs.declared.cause.Cause.{Cause}
use Rattle.lx_node.specs.declared.kind.Kind.{Kind}
use Rattle.lx_node.specs.declared.fields.Extra.{Extra}
use Rattle.lx_node.specs.declared.fields.Extra.TheVariants as extra
use Rattle.lx_node.specs.declared.fields.Fields.{Fields}
use Rattle.lx_node.specs.declared.fields.Fields.TheVariants as fields
use Rattle.lx_forest.specs.Forest.{Forest}
use Rattle.lx_forest.specs.Lookups.{fields_of, parent_of, children_of, children_below, first_child, index_of, is_attached, preorder, IsForest}
use Rattle.lx_forest.specs.Edits.{with_fields}
use Rattle.lx_forest.specs.Views.{unnumbered, seen_fields}
use Rattle.lx_forest.proofs.Lookups.{is_among-children_of, NoRepeats-children_of, fields_of-with_fields}
use Rattle.lx_forest.proofs.Walks.{is_among-preorder_of}
use Rattle.lx_draft.specs.Working.{Working}
use Rattle.lx_draft.specs.Faults.{after}
use Rattle.lx_draft.specs.Steps.{set_step}
use Rattle.lx_draft.proofs.Covered.{answered}
use Rattle.lx_edit.specs.InTurn.{in_turn}
use Rattle.lx_blocks.specs.Blocks.{passes, is_at}
use Rattle.lx_list.specs.Making.{element_fields_changed, with_number, with_extra_changed, set_changed, change_step, number_item}
use Rattle.lx_list.specs.Nesting.{if_list, is_nesting}
use Rattle.lx_list.specs.Numbering.{start_of_list, list_start, numbered_from, list_numbered, number_step}
use Rattle.lx_list.specs.Numbered.{number_in, item_number, due, AreListsNumbered}
use Rattle.lx_list.proofs.Alike.{IsAlike, alike-self, alike-then, alike-set, changed-seen, children-alike, kind-alike, fields-alike}

-- ---- what alike forests have in common

start-seen : (e : Extra) → start_of_list (unnumbered e) ≡ start_of_list e
start-seen extra.Plain = refl
start-seen other = refl

start_at-seen : (o : Option Fields) → list_start (option_map seen_fields o) ≡ list_start o
start_at-seen (Some (fields.Element element)) = start-seen element.extra
start_at-seen other = refl

pub start-alike : (f g : Forest) → IsAlike f g → (q : ℕ) → list_start (fields_of g q) ≡ list_start (fields_of f q)
start-alike f g a q = sym (start_at-seen (fields_of g q)) ∙ ap list_start (fields-alike f g a q) ∙ start_at-seen (fields_of f q)

numbered-extra-seen : (e : Extra) → is_some (number_in (unnumbered e)) ≡ is_some (number_in e)
numbered-extra-seen extra.Plain = refl
numbered-extra-seen other = refl

is_item-seen : (o : Option Fields) → is_some (item_number (option_map seen_fields o)) ≡ is_some (item_number o)
is_item-seen (Some (fields.Element element)) = numbered-extra-seen element.extra
is_item-seen other = refl

pub is_item-alike : (f g : Forest) → IsAlike f g → (q : ℕ) → is_some (item_number (fields_of g q)) ≡ is_some (item_number (fields_of f q))
is_item-alike f g a q = sym (is_item-seen (fields_of g q)) ∙ ap (λ o. is_some (item_number o)) (fields-alike f g a q) ∙ is_item-seen (fields_of f q)

pub is_at-alike : (f g : Forest) → IsAlike f g → (test : Kind → Bool) (q : ℕ) → is_at test g q ≡ is_at test f q
is_at-alike f g a test q = ap (passes test) (kind-alike f g a q)

first-alike : (f g : Forest) → IsAlike f g → (o : Option ℕ) → if_list g o ≡ if_list f o
first-alike f g a None = refl
first-alike f g a (Some k) = ap (λ b. cond b (Some k) None) (is_at-alike f g a is_list k)

pub nesting-alike : (f g : Forest) → IsAlike f g → (q : ℕ) → is_nesting g q ≡ is_nesting f q
nesting-alike f g a q =
    ap is_some (first-alike f g a (first_child g q) ∙ ap (λ xs. if_list f (first_of xs)) (children-alike f g a q))

pub count-agree : (p r : ℕ → Bool) → ((q : ℕ) → p q ≡ r q) → (xs : List ℕ) → count_by p xs ≡ count_by r xs
count-agree p r same [] = refl
count-agree p r same (x ∷ xs) = grind (arith, same x, count-agree p r same xs)

pub due-alike : (f g : Forest) → IsAlike f g → (list i : ℕ) → due g list i ≡ due f list i
due-alike f g a list i =
    ap (λ n. n + count_by (λ q. not (is_nesting g q)) (take i (children_of g list))) (start-alike f g a list)
    ∙ ap (λ n. list_start (fields_of f list) + n)
    (count-agree (λ q. not (is_nesting g q)) (λ q. not (is_nesting f q)) (λ q. ap not (nesting-alike f g a q)) (take i (children_of g list))
    ∙ ap (λ xs. count_by (λ q. not (is_nesting f q)) (take i xs)) (children-alike f g a list))

-- ---- one item

item_numbered : (n : ℕ) (o : Fields) → is_some (item_number (Some o)) ≡ true → item_number (Some (element_fields_changed (with_extra_changed (with_number n)) o)) ≡ Some n
item_numbered n (fields.Element element) h = by_extra element.extra h where
  by_extra : (e : Extra) → is_some (number_in e) ≡ true → number_in (with_number n e) ≡ Some n
  by_extra extra.Plain h = absurd (cc)
  by_extra (extra.List start) h = absurd (cc)
  by_extra (extra.Item value checked) h = refl
  by_extra (extra.Link rel target title url) h = absurd (cc)
  by_extra (extra.Cell header rows columns background) h = absurd (cc)
item_numbered n other h = absurd (cc)

pub set_forest : (k : ℕ) (o : Fields) (w v : Working) → set_step k o w ≡ Ok v → v.forest ≡ with_fields k o w.forest
unfolding set_step
set_forest k o w v e = sym (ap (λ (u : Working). u.forest) (answered _ _ v e).1)

-- what a step that gives an item its number does: the forest is alike, the item has it, and others have what they had
pub record IsGiven (k n : ℕ) (f g : Forest) : Type 0 where
  pub alike : IsAlike f g
  pub here : is_some (item_number (fields_of f k)) ≡ true → item_number (fields_of g k) ≡ Some n
  pub others : (q : ℕ) → (q ≡ k → ⊥) → fields_of g q ≡ fields_of f q

there-set : (k : ℕ) (new old : Fields) (f : Forest) → fields_of f k ≡ Some old → fields_of (with_fields k new f) k ≡ Some new
there-set k new old f was =
    let here : eqb k k ≡ true = grind (arith, eqb_tells k k) in
    fields_of-with_fields k new f k ∙ ap (option_map (λ o. cond (eqb k k) new o)) was ∙ ap (λ b. Some (cond b new old)) here

other-set : (k q : ℕ) (new : Fields) (f : Forest) → (q ≡ k → ⊥) → fields_of (with_fields k new f) q ≡ fields_of f q
other-set k q new f other =
    fields_of-with_fields k new f q ∙ same (fields_of f q) (grind (arith, eqb_tells q k, other))
  where
    same : (o : Option Fields) → eqb q k ≡ false → option_map (λ old. cond (eqb q k) new old) o ≡ o
    same None e = refl
    same (Some old) e = rw e refl

given_by : (n k : ℕ) (o : Option Fields) (w v : Working) → fields_of w.forest k ≡ o → set_changed (with_extra_changed (with_number n)) k o w ≡ Ok v
    → IsGiven k n w.forest v.forest
given_by n k None w v was e =
    let same : w ≡ v = cc in
    subst (λ (u : Working). IsGiven k n w.forest u.forest) same
    (record { alike = alike-self w.forest; here = λ h. absurd (none_there h); others = λ q other. refl })
  where
    none_there : is_some (item_number (fields_of w.forest k)) ≡ true → ⊥
    none_there h = let f : is_some (item_number None) ≡ true = sym (ap (λ o. is_some (item_number o)) was) ∙ h in absurd (cc)
given_by n k (Some old) w v was e =
    let new : Fields = element_fields_changed (with_extra_changed (with_number n)) old in
    let is : v.forest ≡ with_fields k new w.forest = set_forest k new w v e in
    subst (IsGiven k n w.forest) (sym is)
    (record {
      alike = alike-set w.forest k old new was (changed-seen n old);
      here = λ h. ap item_number (there-set k new old w.forest was) ∙ item_numbered n old (sym (ap (λ o. is_some (item_number o)) was) ∙ h);
      others = λ q other. other-set k q new w.forest other;
    })

pub given : (n k : ℕ) (w v : Working) → number_item n k w ≡ Ok v → IsGiven k n w.forest v.forest
unfolding number_item change_step
given n k w v e = given_by n k (fields_of w.forest k) w v refl e

-- ---- the items of a list

-- the number that an item is to have, by its place in a forest
abbrev pub due_at : Forest → ℕ → ℕ
due_at f q = due f (unwrap_or (parent_of f q) 0) (unwrap_or (index_of f q) 0)

abbrev pub IsRight : Forest → Forest → ℕ → Type 0
IsRight f g q = item_number (fields_of g q) ≡ Some (due_at f q)

-- Numbers are written as a forest says: it is alike, what was right stays so, and these are right.
pub record AreGiven (f : Forest) (g h : Forest) (ks : List ℕ) : Type 0 where
  pub alike : IsAlike f h
  pub kept : (q : ℕ) → IsRight f g q → IsRight f h q
  pub right : (q : ℕ) → is_among q ks ≡ true → IsRight f h q

-- the children of lists are items
abbrev pub HasItems : Forest → Type 0
HasItems f = (list q : ℕ) → is_at is_list f list ≡ true → parent_of f q ≡ Some list → is_some (item_number (fields_of f q)) ≡ true

one_given : (f : Forest) (k n : ℕ) (w v : Working) → IsAlike f w.forest → n ≡ due_at f k → is_some (item_number (fields_of f k)) ≡ true
    → number_item n k w ≡ Ok v → AreGiven f w.forest v.forest (k ∷ [])
one_given f k n w v a due_is item e =
    let g = given n k w v e in
    let here : IsRight f v.forest k = g.here (is_item-alike f w.forest a k ∙ item) ∙ ap (λ m. Some m) due_is in
    record {
      alike = alike-then f w.forest v.forest a g.alike;
      kept = λ q was. by_key q was (cases_Bool (eqb q k)) g here;
      right = λ q among. let is : k ≡ q = grind (arith, among, eqb_tells k q) in subst (IsRight f v.forest) is here;
    }
  where
    by_key : (q : ℕ) → IsRight f w.forest q → (eqb q k ≡ true) ⊎ (eqb q k ≡ false) → IsGiven k n w.forest v.forest → IsRight f v.forest k → IsRight f v.forest q
    by_key q was (inl same) g here = let is : k ≡ q = grind (arith, same, eqb_tells q k) in subst (IsRight f v.forest) is here
    by_key q was (inr other) g here = ap item_number (g.others q (grind (arith, other, eqb_tells q k))) ∙ was

given-then : (f g h i : Forest) (ks ls : List ℕ) → AreGiven f g h ks → AreGiven f h i ls → AreGiven f g i (ks ++ ls)
given-then f g h i ks ls a b = record {
  alike = b.alike;
  kept = λ q was. b.kept q (a.kept q was);
  right = λ q among. by_side q (among-append ks q among);
} where
  among-append : (xs : List ℕ) (q : ℕ) → is_among q (xs ++ ls) ≡ true → (is_among q xs ≡ true) ⊎ (is_among q ls ≡ true)
  among-append [] q e = inr e
  among-append (x ∷ xs) q e = grind (arith, e, among-append xs q)

  by_side : (q : ℕ) → (is_among q ks ≡ true) ⊎ (is_among q ls ≡ true) → IsRight f i q
  by_side q (inl first) = b.kept q (a.right q first)
  by_side q (inr second) = b.right q second

-- ---- a place in a list

pub parent_there : (f : Forest) (list q : ℕ) → IsForest f → is_among q (children_of f list) ≡ true → parent_of f q ≡ Some list
parent_there f list q h among =
    elim (is_named_tells (parent_of f q) list) [ inl named ↦ named.1 | inr other ↦ absurd (clash (sym (is_among-children_of f q list h) ∙ among) other.0) ]
  where
    clash : {b : Bool} → b ≡ true → b ≡ false → ⊥
    clash e g = absurd (cc)

pub due_there : (f : Forest) (list q i : ℕ) → IsForest f → slice_get (children_of f list) i ≡ Some q → due_at f q ≡ due f list i
due_there f list q i h at =
    let up : parent_of f q ≡ Some list = parent_there f list q h (is_among-slice_get (children_of f list) q i at) in
    let place : index_of f q ≡ Some i =
    ap (λ p. index_in (children_below f p) q) up ∙ index_in-slice_get (children_of f list) q i (NoRepeats-children_of f list h) at in
    ap (λ p. due f (unwrap_or p 0) (unwrap_or (index_of f q) 0)) up ∙ ap (λ p. due f list (unwrap_or p 0)) place

pub at-append : (before : List ℕ) (q : ℕ) (rest : List ℕ) → slice_get (before ++ q ∷ rest) (length before) ≡ Some q
at-append [] q rest = refl
at-append (x ∷ before) q rest = at-append before q rest

abbrev pub counts : Forest → List ℕ → ℕ
counts f before = count_by (λ item. not (is_nesting f item)) before

-- the number that comes to an item after others
due-append : (f : Forest) (list q : ℕ) (before rest : List ℕ) → before ++ q ∷ rest ≡ children_of f list
    → due f list (length before) ≡ list_start (fields_of f list) + counts f before
due-append f list q before rest whole =
    ap (λ xs. list_start (fields_of f list) + counts f xs) (ap (take (length before)) (sym whole) ∙ take-append_seam before (q ∷ rest))

-- ... and to the next
pub next_due : (f : Forest) (q start : ℕ) (before : List ℕ)
    → cond (is_nesting f q) (start + counts f before) (start + counts f before + 1) ≡ start + counts f (before ++ q ∷ [])
next_due f q start before =
    let one : counts f (before ++ q ∷ []) ≡ counts f before + counts f (q ∷ []) = sum_by-append (λ item. cond (not (is_nesting f item)) 1 0) before (q ∷ []) in
    elim (cases_Bool (is_nesting f q)) [
      | inl nests ↦ rw one (rw nests (omega arith))
      | inr plain ↦ rw one (rw plain (omega arith))
    ]

none_given : (f : Forest) (w v : Working) → IsAlike f w.forest → w ≡ v → AreGiven f w.forest v.forest []
none_given f w v a same =
    subst (λ (u : Working). AreGiven f w.forest u.forest []) same (record { alike = a; kept = λ q was. was; right = λ q among. absurd (cc) })

-- one step after another that isn't refused
first_ok : (r : Result Working Cause) (next : Working → Result Working Cause) (v : Working) → after r next ≡ Ok v → (u : Working) × (r ≡ Ok u) × (next u ≡ Ok v)
first_ok (Ok u) next v e = (u, refl, e)
first_ok (Err cause) next v e = absurd (cc)

pub items_given : (f : Forest) (list n : ℕ) (before items : List ℕ) (w v : Working) → IsForest f → HasItems f → is_at is_list f list ≡ true → IsAlike f w.forest
    → before ++ items ≡ children_of f list → n ≡ list_start (fields_of f list) + counts f before → numbered_from n items w ≡ Ok v
    → AreGiven f w.forest v.forest items
unfolding numbered_from
items_given f list n before [] w v h items_there is_a_list a whole n_is e = none_given f w v a (ok_is e) where
  ok_is : ◌≡◌ {A = Result Working Cause} (Ok w) (Ok v) → w ≡ v
  ok_is e = cc
items_given f list n before (q ∷ items) w v h items_there is_a_list a whole n_is e =
    let at : slice_get (children_of f list) (length before) ≡ Some q = ap (λ xs. slice_get xs (length before)) (sym whole) ∙ at-append before q items in
    let up : parent_of f q ≡ Some list = parent_there f list q h (is_among-slice_get (children_of f list) q (length before) at) in
    let due_is : n ≡ due_at f q = n_is ∙ sym (due-append f list q before items whole) ∙ sym (due_there f list q (length before) h at) in
    let next_is : cond (is_nesting w.forest q) n (n + 1) ≡ list_start (fields_of f list) + counts f (before ++ q ∷ []) =
    ap (λ b. cond b n (n + 1)) (nesting-alike f w.forest a q) ∙ ap (λ m. cond (is_nesting f q) m (m + 1)) n_is
    ∙ next_due f q (list_start (fields_of f list)) before in
    let first = first_ok (number_item n q w) (numbered_from (cond (is_nesting w.forest q) n (n + 1)) items) v e in
    let u : Working = first.0 in
    let here : AreGiven f w.forest u.forest (q ∷ []) = one_given f q n w u a due_is (items_there list q is_a_list up) first.1 in
    given-then f w.forest u.forest v.forest (q ∷ []) items here
    (items_given f list (cond (is_nesting w.forest q) n (n + 1)) (before ++ q ∷ []) items u v h items_there is_a_list here.alike
    (append_assoc before (q ∷ []) items ∙ whole) next_is first.2)

-- ---- each list

-- the children of these are right
abbrev pub ListsRight : Forest → Forest → List ℕ → Type 0
ListsRight f g lists = (list q : ℕ) → is_among list lists ≡ true → is_among q (children_of f list) ≡ true → IsRight f g q

pub record AreNumbered (f g h : Forest) (lists : List ℕ) : Type 0 where
  pub alike : IsAlike f h
  pub kept : (q : ℕ) → IsRight f g q → IsRight f h q
  pub right : ListsRight f h lists

pub list_given : (f : Forest) (list : ℕ) (w v : Working) → IsForest f → HasItems f → is_at is_list f list ≡ true → IsAlike f w.forest → list_numbered list w ≡ Ok v
    → AreGiven f w.forest v.forest (children_of f list)
list_given f list w v h items is_a_list a e =
    items_given f list (list_start (fields_of f list)) [] (children_of f list) w v h items is_a_list a refl (omega arith)
    (ap (λ n. numbered_from n (children_of f list) w) (sym (start-alike f w.forest a list))
    ∙ ap (λ xs. numbered_from (list_start (fields_of w.forest list)) xs w) (sym (children-alike f w.forest a list)) ∙ e)

pub lists_given : (f : Forest) (lists : List ℕ) (w v : Working) → IsForest f → HasItems f
    → ((list : ℕ) → is_among list lists ≡ true → is_at is_list f list ≡ true) → IsAlike f w.forest
    → in_turn list_numbered lists w ≡ Ok v → AreNumbered f w.forest v.forest lists
unfolding in_turn
lists_given f [] w v h items are_lists a e =
    let same : w ≡ v = cc in
    subst (λ (u : Working). AreNumbered f w.forest u.forest []) same (record { alike = a; kept = λ q was. was; right = λ list q among. absurd (cc) })
lists_given f (list ∷ lists) w v h items are_lists a e =
    let first = first_ok (list_numbered list w) (in_turn list_numbered lists) v e in
    let u : Working = first.0 in
    let here : AreGiven f w.forest u.forest (children_of f list) =
    list_given f list w u h items (are_lists list (grind (arith, eqb_tells list list))) a first.1 in
    let rest : AreNumbered f u.forest v.forest lists =
    lists_given f lists u v h items (λ other among. are_lists other (grind (arith, among))) here.alike first.2 in
    record {
      alike = rest.alike;
      kept = λ q was. rest.kept q (here.kept q was);
      right = λ other q among below. by_list other q u (cases_Bool (eqb list other)) among below here rest;
    }
  where
    by_list : (other q : ℕ) (u : Working) → (eqb list other ≡ true) ⊎ (eqb list other ≡ false) → is_among other (list ∷ lists) ≡ true
        → is_among q (children_of f other) ≡ true
        → AreGiven f w.forest u.forest (children_of f list) → AreNumbered f u.forest v.forest lists → IsRight f v.forest q
    by_list other q u (inl same) among below here rest =
        let is : other ≡ list = grind (arith, same, eqb_tells list other) in
        rest.kept q (here.right q (subst (λ k. is_among q (children_of f k) ≡ true) is below))
    by_list other q u (inr apart) among below here rest = rest.right other q (grind (arith, among, apart)) below

-- ---- the whole forest

among_filter : (p : ℕ → Bool) (xs : List ℕ) (q : ℕ) → is_among q xs ≡ true → p q ≡ true → is_among q (filter p xs) ≡ true
among_filter p [] q among passes = absurd (cc)
among_filter p (x ∷ xs) q among passes =
    elim (cases_Bool (eqb x q)) [
      | inl same ↦ let is : x ≡ q = grind (arith, same, eqb_tells x q) in let there : p x ≡ true = ap p is ∙ passes in rw there (grind (arith, same))
      | inr other ↦ (let rest : is_among q (filter p xs) ≡ true = among_filter p xs q (grind (arith, among, other)) passes in
          elim (cases_Bool (p x)) [ inl in_it ↦ rw in_it (grind (arith, rest)) | inr out ↦ rw out rest ])
    ]

pub passes_filter : (p : ℕ → Bool) (xs : List ℕ) (q : ℕ) → is_among q (filter p xs) ≡ true → p q ≡ true
passes_filter p [] q among = absurd (cc)
passes_filter p (x ∷ xs) q among =
    elim (cases_Bool (p x)) [
      | inl in_it ↦ (elim (cases_Bool (eqb x q)) [
        | inl same ↦ let is : x ≡ q = grind (arith, same, eqb_tells x q) in sym (ap p is) ∙ in_it
        | inr other ↦ passes_filter p xs q (let among_in : is_among q (x ∷ filter p xs) ≡ true = rw in_it at among in grind (arith, among_in, other))
      ])
      | inr out ↦ passes_filter p xs q (rw out at among)
    ]

pub numbered-number : (w v : Working) → IsForest w.forest → HasItems w.forest → number_step w ≡ Ok v → AreListsNumbered v.forest × IsAlike w.forest v.forest
unfolding number_step
numbered-number w v h items e =
    let lists : List ℕ = filter (is_at is_list w.forest) (preorder w.forest) in
    let all : AreNumbered w.forest w.forest v.forest lists =
    lists_given w.forest lists w v h items (passes_filter (is_at is_list w.forest) (preorder w.forest)) (alike-self w.forest) e in
    (record { each = λ list attached is_a_list i item at. numbered_at list i item all attached is_a_list at }, all.alike)
  where
    numbered_at : (list i item : ℕ) → AreNumbered w.forest w.forest v.forest (filter (is_at is_list w.forest) (preorder w.forest))
        → is_attached v.forest list ≡ true → is_at is_list v.forest list ≡ true
        → slice_get (children_of v.forest list) i ≡ Some item → item_number (fields_of v.forest item) ≡ Some (due v.forest list i)
    numbered_at list i item all attached is_a_list at =
        let was_at : slice_get (children_of w.forest list) i ≡ Some item =
        ap (λ xs. slice_get xs i) (sym (children-alike w.forest v.forest all.alike list)) ∙ at in
        all.right list item
        (among_filter (is_at is_list w.forest) (preorder w.forest) list (is_among-preorder_of w.forest list ∙ sym (all.alike.within 0 list) ∙ attached)
        (sym (is_at-alike w.forest v.forest all.alike is_list list) ∙ is_a_list))
        (is_among-slice_get (children_of w.forest list) item i was_at)
        ∙ ap (λ n. Some n) (due_there w.forest list item i h was_at ∙ sym (due-alike w.forest v.forest all.alike list i))
