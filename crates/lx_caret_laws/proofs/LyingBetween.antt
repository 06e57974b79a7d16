-- What lies between two leaves in the root's tree: the nodes that come after the first and before the last in preorder, but for
-- those that the last is in.
use Rattle.lx_caret_laws.proofs.CutLists.{AreIn, Parted, Ways, parted, ways, HasFirst, HasLast}
use Rattle.lx_caret_laws.proofs.InPlace.{among-within, keys-level}
use Rattle.lx_caret_laws.proofs.KeysLeft.{tree_in}
use Rattle.lx_forest.proofs.Edits.{parent_of-root}
use Rattle.lx_forest.proofs.Order.{is_attached-root}
use Rattle.lx_forest.proofs.Walks.{NoRepeats-preorder_of, is_among-preorder_of}
use Rattle.lx_forest.proofs.Within.{is_within-apart, is_within-self, is_within-top, is_within-trans}
use Rattle.lx_forest.specs.Forest.{Forest}
use Rattle.lx_forest.specs.Lookups.{IsForest, children_of, is_attached, is_within, keys_within, preorder}
use Rattle.lx_links.proofs.Ordered.{there_within}
use Rattle.lx_trees.proofs.Siblings.{is_among-append}
use Rattle.lx_trees.specs.Siblings.{NoRepeats, is_among}
use Rattle.std.proofs.Common.{Bool, List, [], ap, append_assoc, arith, false, inl, inr, not, subst, sym, true, ℕ, ◌&&◌, ◌++◌, ◌∙◌, ◌∷◌, ◌≡◌, ◌⊎◌}
use Rattle.std.proofs.lemmas.Bool.{cases_Bool}
use Rattle.std.proofs.lemmas.Bool.Decides.{eqb_tells}

-- two leaves of the root's tree, with what comes before them, between them and behind them
pub record Between (f : Forest) (s e : ℕ) (a m z : List ℕ) : Type 0 where
  pub order : IsForest f
  pub are : preorder f ≡ a ++ (s ∷ (m ++ (e ∷ z)))
  pub first : children_of f s ≡ []
  pub last : children_of f e ≡ []

-- whether a node lies wholly between
abbrev pub is_out : Forest → List ℕ → ℕ → ℕ → Bool
is_out f m e q = is_among q m && not (is_within f q e)

pub head_at : (q : ℕ) (tail front : List ℕ) (x : ℕ) (rest : List ℕ) → q ∷ tail ≡ front ++ (x ∷ rest) → (q ≡ x) ⊎ (is_among q front ≡ true)
head_at q tail [] x rest e = inl cc
head_at q tail (y ∷ front) x rest e = let same : q ≡ y = cc in inr (grind (arith, same, eqb_tells y q))

-- a node that holds one of the root's tree is there
pub attached_above : (f : Forest) (q x : ℕ) → IsForest f → is_within f q x ≡ true → is_attached f x ≡ true → is_attached f q ≡ true
attached_above f q x h inside there = elim (cases_Bool (is_attached f q)) [
  | inl so ↦ so
  | inr out ↦ elim (eqb_tells 0 q) [
    | inl own ↦ ap (is_attached f) (sym own.1) ∙ is_attached-root f h
    | inr other ↦
        let top : is_within f q 0 ≡ false = is_within-top f q 0 h (parent_of-root f h) other.1 in
        absurd (grind (arith, is_within-apart f q 0 x h out top, inside, there))
  ]
]

pub holds_in : (f : Forest) (q x : ℕ) (front back : List ℕ) → keys_within f q ≡ front ++ (x ∷ back) → is_within f q x ≡ true
holds_in f q x front back is =
    sym (among-within f q x) ∙ ap (is_among x) is ∙ is_among-append x front (x ∷ back) ∙ grind (arith, eqb_tells x x)

module _ (f : Forest) (s e : ℕ) (a m z : List ℕ) (b : Between f s e a m z) where
  pub names : Parted s e a m z
  names = parted s e a m z (subst NoRepeats b.are (NoRepeats-preorder_of f b.order))

  place_of : (q : ℕ) → is_attached f q ≡ is_among q (a ++ (s ∷ (m ++ (e ∷ z))))
  place_of q = sym (is_among-preorder_of f q) ∙ ap (is_among q) b.are

  pub attached_mid : (q : ℕ) → is_among q m ≡ true → is_attached f q ≡ true
  attached_mid q at =
      place_of q ∙ is_among-append q a (s ∷ (m ++ (e ∷ z))) ∙ grind (arith, at, is_among-append q m (e ∷ z))

  pub attached_first : is_attached f s ≡ true
  attached_first = place_of s ∙ is_among-append s a (s ∷ (m ++ (e ∷ z))) ∙ grind (arith, eqb_tells s s)

  pub attached_last : is_attached f e ≡ true
  attached_last = place_of e ∙ is_among-append e a (s ∷ (m ++ (e ∷ z))) ∙ grind (arith, is_among-append e m (e ∷ z), eqb_tells e e)

  -- how an attached node stands to the two
  pub stands : (q : ℕ) → is_attached f q ≡ true → Ways s e a m z (keys_within f q)
  stands q there = let t = tree_in f 0 q b.order there in ways s e a m z t.front (keys_within f q) t.back (sym t.keys ∙ b.are)

  own_key : (q : ℕ) → is_attached f q ≡ true → is_among q (keys_within f q) ≡ true
  own_key q there = among-within f q q ∙ is_within-self f q ∙ there_within f 0 q there

  -- of a node that lies wholly between, all that is in it is between
  pub out_tree : (q : ℕ) → is_out f m e q ≡ true → AreIn (keys_within f q) m
  out_tree q out =
      let among : is_among q m ≡ true = grind (arith, out) in
      let far : is_within f q e ≡ false = grind (arith, out) in
      let there : is_attached f q ≡ true = attached_mid q among in
      let own : is_among q (keys_within f q) ≡ true = own_key q there in
      elim (stands q there) [
        | inl both ↦
            absurd (grind (
              arith,
              far,
              holds_in f q e (both.front ++ (s ∷ m)) both.back
                  (both.is ∙ sym (append_assoc both.front (s ∷ m) (e ∷ both.back))),
            ))
        | inr (inl first) ↦ absurd (elim (head_at q _ first.front s first.back (sym (keys-level f q b.order (there_within f 0 q there)) ∙ first.is)) [
          | inl same ↦ grind (arith, same, among, names.s_mid)
          | inr ahead ↦ grind (arith, among, names.front_mid q (first.ahead.each q ahead))
        ])
        | inr (inr (inl last)) ↦ absurd (grind (arith, far, holds_in f q e last.front last.back last.is))
        | inr (inr (inr none)) ↦ elim none.each [
          | inl ahead ↦ absurd (grind (arith, among, names.front_mid q (ahead.each q own)))
          | inr (inl inside) ↦ inside
          | inr (inr behind) ↦ absurd (grind (arith, among, names.mid_back q (behind.each q own)))
        ]
      ]

  pub out_below : (q x : ℕ) → is_out f m e q ≡ true → is_within f q x ≡ true → is_out f m e x ≡ true
  out_below q x out inside =
      let among : is_among x m ≡ true = (out_tree q out).each x (among-within f q x ∙ inside) in
      let far : is_within f q e ≡ false = grind (arith, out) in
      elim (cases_Bool (is_within f x e)) [
        | inl bad ↦ absurd (let no : false ≡ true = sym far ∙ is_within-trans f q x e b.order inside bad in cc)
        | inr fine ↦ grind (arith, among, fine)
      ]

  -- it holds neither
  pub out_clear : (q : ℕ) → is_out f m e q ≡ true → is_within f q s ≡ false
  out_clear q out = elim (cases_Bool (is_within f q s)) [
    | inl bad ↦ absurd (grind (arith, names.s_mid, (out_tree q out).each s (among-within f q s ∙ bad)))
    | inr fine ↦ fine
  ]

  -- a node that doesn't lie wholly between, of which a child does, holds one of the two
  pub out_edge : (q c : ℕ) → is_attached f q ≡ true → is_out f m e q ≡ false → is_within f q c ≡ true → is_out f m e c ≡ true
      → (is_within f q s ≡ true) ⊎ (is_within f q e ≡ true)
  out_edge q c there stays inside out =
      let among : is_among c m ≡ true = grind (arith, out) in
      let here : is_among c (keys_within f q) ≡ true = among-within f q c ∙ inside in
      let own : is_among q (keys_within f q) ≡ true = own_key q there in
      elim (stands q there) [
        | inl both ↦ inl (holds_in f q s both.front (m ++ (e ∷ both.back)) both.is)
        | inr (inl first) ↦ inl (holds_in f q s first.front first.back first.is)
        | inr (inr (inl last)) ↦ inr (holds_in f q e last.front last.back last.is)
        | inr (inr (inr none)) ↦ elim none.each [
          | inl ahead ↦ absurd (grind (arith, among, names.front_mid c (ahead.each c here)))
          | inr (inl within) ↦ elim (cases_Bool (is_within f q e)) [
            | inl holds ↦ inr holds
            | inr far ↦ absurd (grind (arith, stays, far, within.each q own))
          ]
          | inr (inr behind) ↦ absurd (grind (arith, among, names.mid_back c (behind.each c here)))
        ]
      ]

  -- a node that holds the first leaf alone
  pub first_alone : (q : ℕ) → is_within f q s ≡ true → is_within f q e ≡ false → HasFirst s e a m z (keys_within f q)
  first_alone q holds far =
      let inside : is_among s (keys_within f q) ≡ true = among-within f q s ∙ holds in
      elim (stands q (attached_above f q s b.order holds attached_first)) [
        | inl both ↦
            absurd (grind (
              arith,
              far,
              holds_in f q e (both.front ++ (s ∷ m)) both.back
                  (both.is ∙ sym (append_assoc both.front (s ∷ m) (e ∷ both.back))),
            ))
        | inr (inl first) ↦ first
        | inr (inr (inl last)) ↦ absurd (grind (arith, far, holds_in f q e last.front last.back last.is))
        | inr (inr (inr none)) ↦ absurd (elim none.each [
          | inl ahead ↦ grind (arith, ahead.each s inside, names.s_front)
          | inr (inl mid) ↦ grind (arith, mid.each s inside, names.s_mid)
          | inr (inr behind) ↦ grind (arith, behind.each s inside, names.s_back)
        ])
      ]

  -- one that holds the last alone
  pub last_alone : (q : ℕ) → is_within f q e ≡ true → is_within f q s ≡ false → HasLast s e a m z (keys_within f q)
  last_alone q holds far =
      let inside : is_among e (keys_within f q) ≡ true = among-within f q e ∙ holds in
      elim (stands q (attached_above f q e b.order holds attached_last)) [
        | inl both ↦ absurd (grind (arith, far, holds_in f q s both.front (m ++ (e ∷ both.back)) both.is))
        | inr (inl first) ↦ absurd (grind (arith, far, holds_in f q s first.front first.back first.is))
        | inr (inr (inl last)) ↦ last
        | inr (inr (inr none)) ↦ absurd (elim none.each [
          | inl ahead ↦ grind (arith, ahead.each e inside, names.e_front)
          | inr (inl mid) ↦ grind (arith, mid.each e inside, names.e_mid)
          | inr (inr behind) ↦ grind (arith, behind.each e inside, names.e_back)
        ])
      ]
