-- What is read once what is selected from one text to another was removed: in each element that holds both texts, and elsewhere.
use Rattle.lx_blocks.specs.Blocks.{passes}
use Rattle.lx_caret.proofs.Lies.{text_at}
use Rattle.lx_caret_laws.proofs.CutLists.{HasBoth}
use Rattle.lx_caret_laws.proofs.EditedIn.{around_it, there_by}
use Rattle.lx_caret_laws.proofs.InPlace.{IsIn, among-within}
use Rattle.lx_caret_laws.proofs.LyingBetween.{attached_above, attached_first, attached_last, names, stands}
use Rattle.lx_caret_laws.proofs.Merged.{now_says, there_as}
use Rattle.lx_caret_laws.proofs.ReadAcross.{OnlyBelow, read_aside}
use Rattle.lx_caret_laws.proofs.ReadOver.{place_at, reads_over}
use Rattle.lx_caret_laws.proofs.SelectedOver.{AllOver}
use Rattle.lx_caret_laws.proofs.TypedAcross.{Allows}
use Rattle.lx_caret_laws.specs.Ranges.{ReadsNow}
use Rattle.lx_caret_laws.specs.Reading.{ReadsBetween, StaysAside, place_along, place_in, read_in, said}
use Rattle.lx_draft.proofs.Touched.{is_some-kind_of}
use Rattle.lx_draft.specs.Faults.{text_in}
use Rattle.lx_draft.specs.Selecting.{text_of}
use Rattle.lx_draft.specs.Working.{Working}
use Rattle.lx_edit.specs.Edits.{text_point}
use Rattle.lx_forest.proofs.Edits.{parent_of-root}
use Rattle.lx_forest.proofs.Within.{is_within-self, is_within-top}
use Rattle.lx_forest.specs.Forest.{Forest, Label}
use Rattle.lx_forest.specs.Lookups.{IsForest, has, is_attached, is_within, keys_within, label_of}
use Rattle.lx_links.proofs.Ordered.{there_within}
use Rattle.lx_node.specs.Kinds.{is_element}
use Rattle.lx_node.specs.declared.cause.Point.{Point}
use Rattle.lx_node.specs.declared.fields.TextFields.{TextFields}
use Rattle.lx_text.proofs.Places.{offset_is, parts}
use Rattle.lx_text.specs.Texts.{front_of, rest_of, text_length}
use Rattle.lx_trees.proofs.Siblings.{is_among-append}
use Rattle.lx_trees.specs.Siblings.{is_among}
use Rattle.std.proofs.Common.{List, Some, [], ap, arith, false, inl, inr, option_map, sym, true, ℕ, ◌++◌, ◌+◌, ◌∙◌, ◌∷◌, ◌≡◌, ◌≢◌}
use Rattle.std.proofs.lemmas.Bool.Decides.{eqb_tells}
use Rattle.std.proofs.lemmas.Bool.{cases_Bool}
use Rattle.std.specs.Prelude.{is_some}

module _ (s e i j format : ℕ) (one other : TextFields) (w v : Working) (o : AllOver s e i j format one other w v) where
  abbrev pub f : Forest
  f = w.forest

  abbrev pub from_p : Point
  from_p = text_point s i

  abbrev pub to_p : Point
  to_p = text_point e j

  order : IsForest f
  order = o.setting.between.order

  there_s : is_attached f s ≡ true
  there_s = attached_first f s e o.front o.mid o.back o.setting.between

  there_e : is_attached f e ≡ true
  there_e = attached_last f s e o.front o.mid o.back o.setting.between

  -- the keys of a node that holds both texts
  pub both_ways : (q : ℕ) → is_within f q s ≡ true → is_within f q e ≡ true → HasBoth s e o.front o.mid o.back (keys_within f q)
  both_ways q first last =
      let known = names f s e o.front o.mid o.back o.setting.between in
      let s_in : is_among s (keys_within f q) ≡ true = among-within f q s ∙ first in
      let e_in : is_among e (keys_within f q) ≡ true = among-within f q e ∙ last in
      elim (stands f s e o.front o.mid o.back o.setting.between q (attached_above f q s order first there_s)) [
        | inl both ↦ both
        | inr (inl k) ↦
            let here : is_among e (k.front ++ (s ∷ k.back)) ≡ true = sym (ap (is_among e) k.is) ∙ e_in in
            absurd (elim (cases_Bool (is_among e k.front)) [
              | inl bad ↦ grind (arith, k.ahead.each e bad, known.e_front)
              | inr out ↦ elim (eqb_tells s e) [
                | inl same ↦ let no : false ≡ true = known.apart same.1 in grind (arith, no)
                | inr apart ↦
                    let rest : is_among e k.back ≡ true = grind (arith, here, out, apart, is_among-append e k.front (s ∷ k.back)) in
                    grind (arith, k.inside.each e rest, known.e_mid)
              ]
            ])
        | inr (inr (inl k)) ↦
            let here : is_among s (k.front ++ (e ∷ k.back)) ≡ true = sym (ap (is_among s) k.is) ∙ s_in in
            absurd (elim (cases_Bool (is_among s k.front)) [
              | inl bad ↦ grind (arith, k.inside.each s bad, known.s_mid)
              | inr out ↦ elim (eqb_tells s e) [
                | inl same ↦ let no : false ≡ true = known.apart same.1 in grind (arith, no)
                | inr apart ↦
                    let rest : is_among s k.back ≡ true =
                    grind (arith, here, out, apart, eqb_tells e s, is_among-append s k.front (e ∷ k.back)) in
                    grind (arith, k.behind.each s rest, known.s_back)
              ]
            ])
        | inr (inr (inr none)) ↦ absurd (elim none.each [
          | inl ahead ↦ grind (arith, ahead.each s s_in, known.s_front)
          | inr (inl mid) ↦ grind (arith, mid.each s s_in, known.s_mid)
          | inr (inr behind) ↦ grind (arith, behind.each s s_in, known.s_back)
        ])
      ]

  s_away : (q : ℕ) (k : HasBoth s e o.front o.mid o.back (keys_within f q)) → is_among s k.front ≡ false
  s_away q k = elim (cases_Bool (is_among s k.front)) [
    | inl bad ↦ absurd (grind (arith, k.ahead.each s bad, (names f s e o.front o.mid o.back o.setting.between).s_front))
    | inr fine ↦ fine
  ]

  e_away : (q : ℕ) (k : HasBoth s e o.front o.mid o.back (keys_within f q)) → is_among e (k.front ++ (s ∷ o.mid)) ≡ false
  e_away q k =
      let known = names f s e o.front o.mid o.back o.setting.between in
      let front : is_among e k.front ≡ false = elim (cases_Bool (is_among e k.front)) [
        | inl bad ↦ absurd (grind (arith, k.ahead.each e bad, known.e_front))
        | inr fine ↦ fine
      ] in
      is_among-append e k.front (s ∷ o.mid) ∙ elim (eqb_tells s e) [
        | inl same ↦ absurd (let no : false ≡ true = known.apart same.1 in cc)
        | inr apart ↦ grind (arith, front, apart, known.e_mid)
      ]

  text_said : (k : ℕ) (t : TextFields) → text_in (label_of f k) ≡ Some t → (at : ℕ) → said f k ≡ front_of at t.text ++ rest_of at t.text
  text_said k t here at = ap text_of (text_at f k t here).fields_are ∙ sym (parts at t.text)

  pub inside : (q : ℕ) → is_within f q s ≡ true → is_within f q e ≡ true
      → IsIn (place_in f q from_p) (place_in f q to_p) [] (read_in f q) (read_in v.forest q)
  inside q first last =
      let k = both_ways q first last in
      let c = o.over.keys q k in
      reads_over f v.forest q s e i j k.front o.mid k.back c.left c.rest (front_of i one.text) (rest_of i one.text) (front_of j other.text)
      (rest_of j other.text) k.is (s_away q k) (e_away q k) c.keys (text_said s one o.setting.first i) (text_said e other o.setting.last j)
      (offset_is i one.text o.in_first) (offset_is j other.text o.in_last) (now_says v.forest s one (front_of i one.text) o.over.first)
      c.ahead c.behind

  own_s : is_within f s s ≡ true
  own_s = is_within-self f s ∙ there_within f 0 s there_s

  own_e : is_within f e e ≡ true
  own_e = is_within-self f e ∙ there_within f 0 e there_e

  -- what holds neither stays
  aside : StaysAside s e f v.forest
  aside = record {
    each = λ q so one two.
        let not_s : q ≢ s = λ same. absurd (grind (arith, one, own_s, ap (λ x. is_within f x s) same)) in
        let not_e : q ≢ e = λ same. absurd (grind (arith, two, own_e, ap (λ x. is_within f x e) same)) in
        (o.over.labels q not_s not_e, o.over.others q one two so);
  }

  below_root : OnlyBelow f v.forest from_p to_p 0
  below_root = record {
    ordered = order;
    order_after = o.over.order;
    first = there_s;
    second = there_e;
    aside = aside;
    above = λ q so apart over.
        absurd (let bad : false ≡ true = sym (is_within-top f q 0 order (parent_of-root f order) (λ same. apart (sym same))) ∙ over in cc);
  }

  pub between_over : ReadsBetween from_p to_p [] f v.forest
  between_over = record {
    places = λ b element first second. let a = around_it _ _ [] _ _ (inside b first second) in (a.first, a.second, a.order);
    around = λ b element first second. (around_it _ _ [] _ _ (inside b first second)).is;
    elsewhere = λ b element first second. read_aside f v.forest from_p to_p 0 below_root b (there_by f b element) first second;
    aside = aside;
  }

  now_there : (k : ℕ) (t : TextFields) (now : List ℕ) → ReadsNow v.forest k t now → has k v.forest ≡ true
  now_there k t now is = sym (is_some-kind_of v.forest k) ∙ ap (λ l. is_some (option_map (λ (l : Label). l.kind) l)) is

  -- the first point is as far as it was in each node that holds both texts
  pub place_kept : (q : ℕ) → is_within f q s ≡ true → is_within f q e ≡ true → place_in v.forest q from_p ≡ place_in f q from_p
  place_kept q first second =
      let k = both_ways q first second in
      let c = o.over.keys q k in
      ap (place_along v.forest from_p) c.keys ∙ place_at v.forest s i c.left c.rest c.away
      ∙ ap (λ t. text_length t + i) c.ahead
      ∙ sym (ap (place_along f from_p) k.is ∙ place_at f s i k.front (o.mid ++ (e ∷ k.back)) (s_away q k))

  -- what is needed to add something at the first point
  pub allows_over : Allows from_p to_p f v.forest
  allows_over = record {
    element = λ b element.
        let not_s : b ≢ s = λ same. absurd (grind (arith, same, element, o.leaf)) in
        let not_e : b ≢ e = λ same. absurd (grind (arith, same, element, o.leaf_last)) in
        ap (λ l. passes is_element (option_map (λ (l : Label). l.kind) l)) (o.over.labels b not_s not_e) ∙ element;
    within = o.over.within;
    there = λ b so. elim (eqb_tells b s) [
      | inl own ↦ ap (λ x. has x v.forest) own.1 ∙ now_there s one (front_of i one.text) o.over.first
      | inr not_s ↦ elim (eqb_tells b e) [
        | inl own ↦ ap (λ x. has x v.forest) own.1 ∙ now_there e other (rest_of j other.text) o.over.last
        | inr not_e ↦ there_as f v.forest b (o.over.labels b not_s.1 not_e.1) so
      ]
    ];
    place = λ b element first second. place_kept b first second;
  }
