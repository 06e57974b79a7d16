-- Attributes stay in the order of their names, and are no more than there are names.
use Rattle.std.proofs.Common.{◌≡◌, ℕ, ◌+◌, ◌<◌, ◌≤◌, Bool, true, false, not, ltb, ◌&&◌, ◌||◌, List, [], ◌∷◌, length, get_or, Option, None, Some, refl, sym, ap, ◌∙◌, arith, lit<, zero, suc, take, drop, ◌++◌, append_assoc, length-append, set}
use Rattle.std.proofs.lemmas.Cmp.{nat_list_cmp_total, on_total}
use Rattle.std.proofs.lemmas.Bool.{ltb-true}
use Rattle.std.proofs.lemmas.List.{take_more, drop_more, take_all, drop_all, set_split, take-append-drop}
use Rattle.std.proofs.Math.Numerals.{add-one}
use Rattle.std.specs.Cmp.{IsTotalOrder}
use Rattle.std.specs.List.{list_all, insert, remove}
use Rattle.std.specs.declared.cmp.Ordering.{Ordering}
use Rattle.std.specs.declared.cmp.Ordering.TheVariants.{Less, Equal, Greater}
use Rattle.std.specs.Ordering.{is_lt, match_ordering, ordering_reverse}
use Rattle.lx_host.specs.declared.tag.Name.{Name}
use Rattle.lx_host.specs.declared.tag.Name.TheVariants.{AriaChecked, Class, ColSpan, DataAlign, DataBg, DataIndent, DataLexicalDecorator, DataLexicalText, DataSrc, Dir, Href, Rel, Role, RowSpan, Start, Style, Target, Title, Value}
use Rattle.lx_host.specs.Words.{name_word, names_rise, name_order, before_others, with_attribute, AreAttributes}
use Rattle.lx_host.specs.Places.{IsWrittenAt}
use Rattle.lx_host.specs.Stocked.{most_attributes}

order : IsTotalOrder name_order
order = on_total name_word nat_list_cmp_total

both : (s t : Bool) → (s && t) ≡ true → (s ≡ true) × (t ≡ true)
both true t e = (refl, e)
both false t e = absurd (cc)

is_less : (o : Ordering) → is_lt o ≡ true → o ≡ Less
is_less Less e = refl
is_less Equal e = absurd (cc)
is_less Greater e = absurd (cc)

-- ---- one attribute before others

rise_rest : (a : Name × List ℕ) (xs : List (Name × List ℕ)) → names_rise (a ∷ xs) ≡ true → names_rise xs ≡ true
rise_rest a [] e = refl
rise_rest a (b ∷ xs) e = (both _ _ e).1

rise_more : (a b : Name × List ℕ) (xs : List (Name × List ℕ)) → name_order a.0 b.0 ≡ Less → names_rise (b ∷ xs) ≡ true → names_rise (a ∷ b ∷ xs) ≡ true
rise_more a b xs e f = rw e f

rise_past : (a b : Name × List ℕ) (xs : List (Name × List ℕ)) → name_order a.0 b.0 ≡ Less → names_rise (b ∷ xs) ≡ true → names_rise (a ∷ xs) ≡ true
rise_past a b [] e f = refl
rise_past a b (c ∷ xs) e f =
    let p = both (is_lt (name_order b.0 c.0)) _ f in
    rise_more a c xs (order.trans a.0 b.0 c.0 e (is_less _ p.0)) p.1

rise_same : (a b : Name × List ℕ) (xs : List (Name × List ℕ)) → name_order a.0 b.0 ≡ Equal → names_rise (b ∷ xs) ≡ true → names_rise (a ∷ xs) ≡ true
rise_same a b [] e f = refl
rise_same a b (c ∷ xs) e f =
    let p = both (is_lt (name_order b.0 c.0)) _ f in
    rise_more a c xs (order.congr a.0 b.0 c.0 e ∙ is_less _ p.0) p.1

later : (a b : Name) → name_order a b ≡ Greater → name_order b a ≡ Less
later a b e = order.antisymm b a ∙ ap ordering_reverse e

-- ---- with an attribute given or taken away

-- a comes before what is given or taken away
rise_given : (name : Name) (value : Option (List ℕ)) (a : Name × List ℕ) (xs : List (Name × List ℕ)) → name_order a.0 name ≡ Less → names_rise (a ∷ xs) ≡ true
    → ((v : List ℕ) → names_rise ((name, v) ∷ xs) ≡ true) → names_rise (a ∷ before_others name value xs) ≡ true
rise_given name None a xs e f g = f
rise_given name (Some v) a xs e f g = rise_more a (name, v) xs e (g v)

-- o is the order of the name and of the first one after a
rise_behind_by : (name : Name) (value : Option (List ℕ)) (a b : Name × List ℕ) (xs : List (Name × List ℕ)) (o : Ordering) → name_order name b.0 ≡ o
    → name_order a.0 name ≡ Less → name_order a.0 b.0 ≡ Less → names_rise (b ∷ xs) ≡ true
    → (name_order b.0 name ≡ Less → names_rise (b ∷ with_attribute name value xs) ≡ true)
    → names_rise (a ∷ match_ordering o (before_others name value (b ∷ xs)) (before_others name value xs) (b ∷ with_attribute name value xs)) ≡ true
rise_behind_by name value a b xs Less is e f g more = rise_given name value a (b ∷ xs) e (rise_more a b xs f g) (λ v. rise_more (name, v) b xs is g)
rise_behind_by name value a b xs Equal is e f g more = rise_given name value a xs e (rise_past a b xs f g) (λ v. rise_same (name, v) b xs is g)
rise_behind_by name value a b xs Greater is e f g more = rise_more a b _ f (more (later name b.0 is))

rise_behind : (name : Name) (value : Option (List ℕ)) (a : Name × List ℕ) (xs : List (Name × List ℕ)) → name_order a.0 name ≡ Less → names_rise (a ∷ xs) ≡ true
    → names_rise (a ∷ with_attribute name value xs) ≡ true
rise_behind name value a [] e f = rise_given name value a [] e f (λ v. refl)
rise_behind name value a (b ∷ xs) e f =
    let p = both (is_lt (name_order a.0 b.0)) _ f in
    rise_behind_by name value a b xs (name_order name b.0) refl e (is_less _ p.0) p.1 (λ g. rise_behind name value b xs g p.1)

rise_first : (name : Name) (value : Option (List ℕ)) (xs : List (Name × List ℕ)) → names_rise xs ≡ true → ((v : List ℕ) → names_rise ((name, v) ∷ xs) ≡ true)
    → names_rise (before_others name value xs) ≡ true
rise_first name None xs e f = e
rise_first name (Some v) xs e f = f v

rise_by : (name : Name) (value : Option (List ℕ)) (a : Name × List ℕ) (xs : List (Name × List ℕ)) (o : Ordering) → name_order name a.0 ≡ o
    → names_rise (a ∷ xs) ≡ true
    → names_rise (match_ordering o (before_others name value (a ∷ xs)) (before_others name value xs) (a ∷ with_attribute name value xs)) ≡ true
rise_by name value a xs Less is e = rise_first name value (a ∷ xs) e (λ v. rise_more (name, v) a xs is e)
rise_by name value a xs Equal is e = rise_first name value xs (rise_rest a xs e) (λ v. rise_same (name, v) a xs is e)
rise_by name value a xs Greater is e = rise_behind name value a xs (later name a.0 is) e

rise_with : (name : Name) (value : Option (List ℕ)) (xs : List (Name × List ℕ)) → names_rise xs ≡ true → names_rise (with_attribute name value xs) ≡ true
rise_with name value [] e = rise_first name value [] refl (λ v. refl)
rise_with name value (a ∷ xs) e = rise_by name value a xs (name_order name a.0) refl e

-- ---- how many there are: each name has a place, and the places rise with the names

abbrev names : List Name
names = AriaChecked ∷ Class ∷ ColSpan ∷ DataAlign ∷ DataBg ∷ DataIndent ∷ DataLexicalDecorator ∷ DataLexicalText ∷ DataSrc ∷ Dir ∷ Href ∷ Rel ∷ Role ∷ RowSpan
    ∷ Start ∷ Style ∷ Target ∷ Title ∷ Value ∷ []

abbrev place : Name → ℕ
place AriaChecked = 0
place Class = 1
place ColSpan = 2
place DataAlign = 3
place DataBg = 4
place DataIndent = 5
place DataLexicalDecorator = 6
place DataLexicalText = 7
place DataSrc = 8
place Dir = 9
place Href = 10
place Rel = 11
place Role = 12
place RowSpan = 13
place Start = 14
place Style = 15
place Target = 16
place Title = 17
place Value = 18

has_place : (a : Name) → (get_or names (place a) AriaChecked ≡ a) × (place a < 19)
has_place AriaChecked = (refl, lit< tt)
has_place Class = (refl, lit< tt)
has_place ColSpan = (refl, lit< tt)
has_place DataAlign = (refl, lit< tt)
has_place DataBg = (refl, lit< tt)
has_place DataIndent = (refl, lit< tt)
has_place DataLexicalDecorator = (refl, lit< tt)
has_place DataLexicalText = (refl, lit< tt)
has_place DataSrc = (refl, lit< tt)
has_place Dir = (refl, lit< tt)
has_place Href = (refl, lit< tt)
has_place Rel = (refl, lit< tt)
has_place Role = (refl, lit< tt)
has_place RowSpan = (refl, lit< tt)
has_place Start = (refl, lit< tt)
has_place Style = (refl, lit< tt)
has_place Target = (refl, lit< tt)
has_place Title = (refl, lit< tt)
has_place Value = (refl, lit< tt)

abbrev places_rise : Name → Name → Bool
places_rise a b = not (is_lt (name_order a b)) || ltb (place a) (place b)

all_rise : list_all (λ a. list_all (places_rise a) names) names ≡ true
unfolding name_word
all_rise = refl

all_at : {A : Type 0} (p : A → Bool) (xs : List A) (i : ℕ) (d : A) → i < length xs → list_all p xs ≡ true → p (get_or xs i d) ≡ true
all_at p [] i d h e = absurd (omega arith)
all_at p (x ∷ xs) zero d h e = (both _ _ e).0
all_at p (x ∷ xs) (suc i) d h e = all_at p xs i d (omega arith) (both _ _ e).1

place_lt : (a b : Name) → name_order a b ≡ Less → place a < place b
place_lt a b e =
    let p = all_at (λ x. list_all (places_rise x) names) names (place a) AriaChecked (has_place a).1 all_rise in
    let q = all_at (places_rise (get_or names (place a) AriaChecked)) names (place b) AriaChecked (has_place b).1 p in
    let r : places_rise a b ≡ true =
    sym (ap (λ x. places_rise x (get_or names (place b) AriaChecked)) (has_place a).0 ∙ ap (places_rise a) (has_place b).0) ∙ q in
    ltb-true (place a) (place b) (ap (λ o. not (is_lt o) || ltb (place a) (place b)) (sym e) ∙ r)

few_from : (a : Name × List ℕ) (xs : List (Name × List ℕ)) → names_rise (a ∷ xs) ≡ true → place a.0 + length xs < 19
few_from a [] e = omega (arith, (has_place a.0).1)
few_from a (b ∷ xs) e =
    let p = both (is_lt (name_order a.0 b.0)) _ e in
    omega (arith, place_lt a.0 b.0 (is_less _ p.0), few_from b xs p.1)

few : (xs : List (Name × List ℕ)) → names_rise xs ≡ true → length xs ≤ most_attributes
few [] e = omega arith
few (a ∷ xs) e = omega (arith, few_from a xs e)

pub attributes_with : (name : Name) (value : Option (List ℕ)) (xs : List (Name × List ℕ)) → AreAttributes xs → AreAttributes (with_attribute name value xs)
attributes_with name value xs are =
    let e = rise_with name value xs are.rise in
    record { rise = e; few = omega (arith, few _ e) }

-- ---- where an attribute is written

-- the first ones, up to here, stay whatever is written
pub record IsPassed (name : Name) (xs : List (Name × List ℕ)) (i : ℕ) : Type 0 where
  pub is : (value : Option (List ℕ)) → with_attribute name value xs ≡ take i xs ++ with_attribute name value (drop i xs)

pub passed_none : (name : Name) (xs : List (Name × List ℕ)) → IsPassed name xs 0
passed_none name xs = record { is = λ value. refl }

module _ (name : Name) (xs : List (Name × List ℕ)) (i : ℕ) (x : Name × List ℕ) (within : i < length xs) (item : x ≡ get_or xs i x) (passed : IsPassed name xs i)
  where
    met : drop i xs ≡ x ∷ drop (i + 1) xs
    met = drop_more xs i x within ∙ ap (λ y. y ∷ drop (i + 1) xs) (sym item)

    -- o is the order of the name and of the one here
    by_order : (o : Ordering) → name_order name x.0 ≡ o → (value : Option (List ℕ))
        → with_attribute name value xs
        ≡ take i xs
        ++ match_ordering o (before_others name value (x ∷ drop (i + 1) xs)) (before_others name value (drop (i + 1) xs))
        (x ∷ with_attribute name value (drop (i + 1) xs))
    by_order o e value = passed.is value ∙ ap (λ l. take i xs ++ with_attribute name value l) met ∙ rw e refl

    pub passed_more : name_order name x.0 ≡ Greater → IsPassed name xs (i + 1)
    passed_more e = record {
      is = λ value.
          by_order Greater e value
          ∙ sym (append_assoc (take i xs) (x ∷ []) (with_attribute name value (drop (i + 1) xs)))
          ∙ ap (λ l. l ++ with_attribute name value (drop (i + 1) xs)) (sym (take_more xs i x within ∙ ap (λ y. take i xs ++ y ∷ []) (sym item)));
    }

    pub stands_here : name_order name x.0 ≡ Equal → IsWrittenAt name xs i (i + 1)
    stands_here e = record { within = omega (arith, within); is = λ value. by_order Equal e value }

    pub belongs_here : name_order name x.0 ≡ Less → IsWrittenAt name xs i i
    belongs_here e = record { within = omega (arith, within); is = λ value. by_order Less e value ∙ ap (λ l. take i xs ++ before_others name value l) (sym met) }

pub belongs_behind : (name : Name) (xs : List (Name × List ℕ)) (i n : ℕ) → length xs ≤ i → n ≡ length xs → IsPassed name xs i → IsWrittenAt name xs n n
belongs_behind name xs i n end is passed = record {
  within = omega (arith, is);
  is = λ value.
      passed.is value
      ∙ ap (λ l. l ++ with_attribute name value (drop i xs)) (take_all i xs end ∙ sym (take_all n xs (omega (arith, is))))
      ∙ ap (λ l. take n xs ++ with_attribute name value l) (drop_all i xs end)
      ∙ ap (λ l. take n xs ++ before_others name value l) (sym (drop_all n xs (omega (arith, is))));
}

-- where one more can be written there aren't all yet
pub few_before : (name : Name) (xs : List (Name × List ℕ)) (i : ℕ) (v : List ℕ) → AreAttributes xs → IsWrittenAt name xs i i → length xs < most_attributes
few_before name xs i v are is =
    let written = ap length (is.is (Some v)) ∙ length-append (take i xs) ((name, v) ∷ drop i xs) in
    let split = ap length (take-append-drop i xs) in
    omega (arith, few _ (rise_with name (Some v) xs are.rise), written, split, length-append (take i xs) (drop i xs))

-- ---- writing it there

pub written_set : (name : Name) (xs : List (Name × List ℕ)) (i : ℕ) (v : List ℕ) → IsWrittenAt name xs i (i + 1)
    → set xs i (name, v) ≡ with_attribute name (Some v) xs
written_set name xs i v is =
    set_split xs i (name, v) (omega (arith, is.within)) ∙ ap (λ k. take i xs ++ (name, v) ∷ drop k xs) (sym (add-one i)) ∙ sym (is.is (Some v))

pub written_insert : (name : Name) (xs : List (Name × List ℕ)) (i : ℕ) (v : List ℕ) → IsWrittenAt name xs i i
    → insert xs i (name, v) ≡ with_attribute name (Some v) xs
written_insert name xs i v is = sym (is.is (Some v))

pub written_remove : (name : Name) (xs : List (Name × List ℕ)) (i : ℕ) → IsWrittenAt name xs i (i + 1) → remove xs i ≡ with_attribute name None xs
written_remove name xs i is = ap (λ k. take i xs ++ drop k xs) (sym (add-one i)) ∙ sym (is.is None)
