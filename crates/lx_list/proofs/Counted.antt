-- Where items have their numbers, numbering takes counts and writes, and nothing else.
use Rattle.std.proofs.Common.{◌≡◌, ◌∙◌, ℕ, suc, ◌+◌, ◌≤◌, Bool, true, false, cond, not, List, [], ◌∷◌, take, Option, None, Some, Ok, refl, sym, ap, ap₂, arith}
use Rattle.std.specs.Prelude.{option_map, sum_by}
use Rattle.std.specs.List.{slice_get, count_by}
use Rattle.std.proofs.lemmas.List.Sums.{sum_by-cons}
use Rattle.std.proofs.lemmas.Bool.Decides.{eqb_tells}
use Rattle.lx_trees.specs.Siblings.{is_among}
use Rattle.lx_trees.specs.Spots.{Spot}
use Rattle.lx_node.specs.Kinds.{may_hold, is_list, is_item, is_element}
use Rattle.lx_node.specs.Strings.{characters_of}
use Rattle.lx_node.specs.Limits.{most_counts, most_written}
use Rattle.lx_node.specs.declared.kind.Kind.{Kind}
use Rattle.lx_node.specs.declared.kind.Kind.TheVariants.{Item}
use Rattle.lx_node.specs.declared.fields.Extra.{Extra}
use Rattle.lx_node.specs.declared.fields.Extra.TheVariants as extra
use Rattle.lx_node.specs.declared.fields.Fields.{Fields}
use Rattle.lx_node.specs.declared.fields.Fields.TheVariants as fields
use Rattle.lx_forest.specs.Forest.{Forest, Label}
use Rattle.lx_forest.specs.Lookups.{label_of, fields_of, children_of, IsForest, IsHeld}
use Rattle.lx_forest.specs.Suited.{IsSuited}
use Rattle.lx_forest.specs.Weights.{own_weight, weight_in}
use Rattle.lx_links.specs.Sums.{items_in, item_characters_in}
use Rattle.lx_draft.specs.Working.{Working}
use Rattle.lx_draft.specs.Faults.{after}
use Rattle.lx_draft.specs.Steps.{rewritten, set_step}
use Rattle.lx_draft.proofs.Again.{set_again-element}
use Rattle.lx_draft.proofs.Rewritten.{rewritten-none, rewritten-more}
use Rattle.lx_blocks.specs.Blocks.{passes, is_at}
use Rattle.lx_list.specs.Making.{element_fields_changed, with_number, with_extra_changed, set_changed, change_step, number_item}
use Rattle.lx_list.specs.Nesting.{is_nesting}
use Rattle.lx_list.specs.Numbering.{list_start, numbered_from, list_numbered}
use Rattle.lx_list.specs.Numbered.{number_in, item_number, IsNumberedList}
use Rattle.lx_list.proofs.Numbered.{parent_there}
use Rattle.lx_list.proofs.Itemless.{spot_known, there_at, item_below}

-- ---- one item

same_number : (n : ℕ) (o : Fields) → item_number (Some o) ≡ Some n → element_fields_changed (with_extra_changed (with_number n)) o ≡ o
same_number n (fields.Element element) is = ap (λ e. fields.Element (record element { extra = e })) (by_extra element.extra is) where
  by_extra : (e : Extra) → number_in e ≡ Some n → with_number n e ≡ e
  by_extra (extra.Item value checked) is = let own : value ≡ n = cc in ap (λ k. extra.Item k checked) (sym own)
  by_extra extra.Plain is = refl
  by_extra (extra.List start) is = refl
  by_extra (extra.Link rel target title url) is = refl
  by_extra (extra.Cell header rows columns background) is = refl
same_number n other is = refl

-- so many more are within the limits
abbrev pub HasRoomFor : ℕ → ℕ → Working → Type 0
HasRoomFor n m w = (w.counted + n ≤ most_counts) × (w.written + m ≤ most_written)

fields_known : (o : Option Fields) (n : ℕ) → item_number o ≡ Some n → (x : Fields) × (o ≡ Some x)
fields_known (Some x) n is = (x, refl)
fields_known None n is = absurd (cc)

-- numbering an item that has its number writes the fields that it has
number_again : (n k : ℕ) (w : Working) → item_number (fields_of w.forest k) ≡ Some n
    → (o : Fields) × ((fields_of w.forest k ≡ Some o) × (number_item n k w ≡ set_step k o w))
unfolding number_item change_step
number_again n k w is =
    let known = fields_known (fields_of w.forest k) n is in
    let o : Fields = known.0 in
    (o, (known.1, ap (λ x. set_changed (with_extra_changed (with_number n)) k x w) known.1 ∙ ap (λ x. set_step k x w) (same_number n o (sym (ap item_number known.1) ∙ is))))

again_done : (n k : ℕ) (w v : Working) → item_number (fields_of w.forest k) ≡ Some n → ((o : Fields) → fields_of w.forest k ≡ Some o → set_step k o w ≡ Ok v)
    → number_item n k w ≡ Ok v
again_done n k w v is done = let same = number_again n k w is in same.1.1 ∙ done same.0 same.1.0

item_element : (kind : Kind) → is_item kind ≡ true → is_element kind ≡ true
unfolding is_item is_element
item_element Item is = refl
item_element kind is = absurd (cc)

abbrev pub own_items : Forest → ℕ → ℕ
own_items f = own_weight items_in f

abbrev pub own_characters : Forest → ℕ → ℕ
own_characters f = own_weight item_characters_in f

item_again : (n k : ℕ) (w : Working) → IsForest w.forest → IsSuited w.forest → is_at is_item w.forest k ≡ true → item_number (fields_of w.forest k) ≡ Some n
    → HasRoomFor (own_items w.forest k) (own_characters w.forest k) w → number_item n k w ≡ Ok (rewritten (own_items w.forest k) (own_characters w.forest k) w)
item_again n k w h suited is_it is fits =
    let known = spot_known w.forest k (there_at is_item w.forest k is_it) in
    let l : Label = known.0.label in
    let here : label_of w.forest k ≡ Some l = ap (option_map (λ (s : Spot Label). s.label)) known.1 in
    let item : is_item l.kind ≡ true = sym (ap (λ o. passes is_item (option_map (λ (m : Label). m.kind) o)) here) ∙ is_it in
    let one : own_items w.forest k ≡ 1 = ap (weight_in items_in) here ∙ ap (λ b. cond b 1 0) item in
    let all : own_characters w.forest k ≡ characters_of l.fields = ap (weight_in item_characters_in) here ∙ ap (λ b. cond b (characters_of l.fields) 0) item in
    again_done n k w (rewritten (own_items w.forest k) (own_characters w.forest k) w) is
    (λ o own.
    let same : l.fields ≡ o = some_same (sym (ap (option_map (λ (m : Label). m.fields)) here) ∙ own) in
    ap (λ x. set_step k x w) (sym same)
    ∙ set_again-element k l w h suited here (item_element l.kind item) (omega (arith, fits.0, one)) (omega (arith, fits.1, all))
    ∙ ap₂ (λ a b. Ok (rewritten a b w)) (sym one) (sym all))
  where
    some_same : {A : Type 0} {a b : A} → Some a ≡ Some b → a ≡ b
    some_same e = cc

-- ---- items, one after another

-- each of these has its number, where the first of them is to have this one
abbrev HaveNumbers : Forest → ℕ → List ℕ → Type 0
HaveNumbers f n items =
    (i item : ℕ) → slice_get items i ≡ Some item → item_number (fields_of f item) ≡ Some (n + count_by (λ q. not (is_nesting f q)) (take i items))

next_have : (f : Forest) (n item : ℕ) (items : List ℕ) → HaveNumbers f n (item ∷ items) → HaveNumbers f (cond (is_nesting f item) n (n + 1)) items
next_have f n item items have i q at =
    have (suc i) q at
    ∙ ap (λ m. Some (n + m)) (sum_by-cons (λ x. cond (not (is_nesting f x)) 1 0) item (take i items))
    ∙ ap Some (by_nesting (is_nesting f item) (count_by (λ x. not (is_nesting f x)) (take i items)))
  where
    by_nesting : (b : Bool) (m : ℕ) → n + (cond (not b) 1 0 + m) ≡ cond b n (n + 1) + m
    by_nesting true m = omega arith
    by_nesting false m = omega arith

pub items_again : (n : ℕ) (items : List ℕ) (w : Working) → IsForest w.forest → IsSuited w.forest
    → ((q : ℕ) → is_among q items ≡ true → is_at is_item w.forest q ≡ true) → HaveNumbers w.forest n items
    → HasRoomFor (sum_by (own_items w.forest) items) (sum_by (own_characters w.forest) items) w
    → numbered_from n items w ≡ Ok (rewritten (sum_by (own_items w.forest) items) (sum_by (own_characters w.forest) items) w)
unfolding numbered_from
items_again n [] w h suited are have fits = ap Ok (sym (rewritten-none w))
items_again n (item ∷ items) w h suited are have fits =
    let f : Forest = w.forest in
    let a : ℕ = own_items f item in
    let b : ℕ = own_characters f item in
    let more : sum_by (own_items f) (item ∷ items) ≡ a + sum_by (own_items f) items = sum_by-cons (own_items f) item items in
    let longer : sum_by (own_characters f) (item ∷ items) ≡ b + sum_by (own_characters f) items = sum_by-cons (own_characters f) item items in
    let here : item_number (fields_of f item) ≡ Some n = have 0 item refl ∙ ap Some (omega arith) in
    let v : Working = rewritten a b w in
    let first : number_item n item w ≡ Ok v =
    item_again n item w h suited (are item (grind (arith, eqb_tells item item))) here (omega (arith, fits.0, more), omega (arith, fits.1, longer)) in
    let rest : numbered_from (cond (is_nesting f item) n (n + 1)) items v ≡ Ok (rewritten (sum_by (own_items f) items) (sum_by (own_characters f) items) v) =
    items_again (cond (is_nesting f item) n (n + 1)) items v h suited (λ q among. are q (grind (arith, among))) (next_have f n item items have)
    (omega (arith, fits.0, more), omega (arith, fits.1, longer)) in
    ap (λ r. after r (numbered_from (cond (is_nesting f item) n (n + 1)) items)) first ∙ rest
    ∙ ap Ok (rewritten-more a b (sum_by (own_items f) items) (sum_by (own_characters f) items) w)
    ∙ ap₂ (λ x y. Ok (rewritten x y w)) (sym more) (sym longer)

-- ---- lists, one after another

pub list_again : (list : ℕ) (w : Working) → IsForest w.forest → IsHeld may_hold w.forest → IsSuited w.forest → is_at is_list w.forest list ≡ true
    → IsNumberedList w.forest list
    → HasRoomFor (sum_by (own_items w.forest) (children_of w.forest list)) (sum_by (own_characters w.forest) (children_of w.forest list)) w
    → list_numbered list w
    ≡ Ok (rewritten (sum_by (own_items w.forest) (children_of w.forest list)) (sum_by (own_characters w.forest) (children_of w.forest list)) w)
list_again list w h held suited is with_number fits =
    items_again (list_start (fields_of w.forest list)) (children_of w.forest list) w h suited
    (λ q among. item_below w.forest list q held is (parent_there w.forest list q h among)) with_number fits
