-- The keys of a tree in which the first children of one node went to the end of another, and what is read in it.
use Rattle.lx_blocks.proofs.Until.{filter_among}
use Rattle.lx_caret_laws.proofs.Covers.{among_trees, in_one}
use Rattle.lx_caret_laws.proofs.CutLists.{AreIn, both_none, cut_three, no_repeats_rest, not_ahead, not_behind, same_cut}
use Rattle.lx_caret_laws.proofs.InPlace.{among-within, keys-level}
use Rattle.lx_caret_laws.proofs.KeysLeft.{IsClosed, holder_there, keys_alike, no_repeats_within, tree_in}
use Rattle.lx_caret_laws.proofs.LyingBetween.{head_at, holds_in}
use Rattle.lx_caret_laws.proofs.ReadOver.{KeysOver, said-append, said-same}
use Rattle.lx_caret_laws.specs.Reading.{read_in, said, said_by}
use Rattle.lx_draft.proofs.Gaps.{child_of, parent_here}
use Rattle.lx_edit_laws.proofs.Reading.{down, spread, spread-append, spread-same}
use Rattle.lx_edit_laws.proofs.WrapLists.{filter-gone, filter-kept}
use Rattle.lx_forest.proofs.Lookups.{has-child, has-parent_of}
use Rattle.lx_forest.proofs.Within.{is_within-apart, is_within-parent, is_within-self, is_within-trans, is_within-up}
use Rattle.lx_forest.specs.Forest.{Forest}
use Rattle.lx_forest.specs.Lookups.{IsForest, children_of, has, is_within, keys_within, parent_of}
use Rattle.lx_trees.proofs.Siblings.{is_among-append}
use Rattle.lx_trees.specs.Siblings.{NoRepeats, is_among}
use Rattle.std.proofs.Common.{Bool, List, Some, [], ap, append-nil, append_assoc, ap₂, arith, cond, false, inl, inr, not, refl, subst, sym, true, ℕ, ◌&&◌, ◌++◌, ◌∙◌, ◌∷◌, ◌≡◌, ◌≢◌}
use Rattle.std.proofs.lemmas.Bool.{cases_Bool}
use Rattle.std.proofs.lemmas.Bool.Decides.{eqb_tells}
use Rattle.std.proofs.lemmas.List.Elements.{filter-append}
use Rattle.std.specs.Prelude.{filter}

-- the first children of the node b went to the end of the node a: neither is in the other, and a holds s, b holds e
pub record Joining (g h : Forest) (s e a b : ℕ) (ls rs : List ℕ) : Type 0 where
  pub order : IsForest g
  pub order_after : IsForest h
  pub says : (q : ℕ) → said h q ≡ said g q
  pub there : (q : ℕ) → has q g ≡ true → has q h ≡ true
  pub parts : children_of g b ≡ ls ++ rs
  pub first : children_of h a ≡ children_of g a ++ ls
  pub last : children_of h b ≡ rs
  pub others : (q : ℕ) → q ≢ a → q ≢ b → children_of h q ≡ children_of g q
  pub far_last : is_within g a b ≡ false
  pub far_first : is_within g b a ≡ false
  pub holds_first : is_within g a s ≡ true
  pub holds_last : is_within g b e ≡ true
  pub apart : b ≢ e

within_below : (f : Forest) (q c : ℕ) → IsForest f → parent_of f c ≡ Some q → is_within f q c ≡ true
within_below f q c h up = elim (eqb_tells c q) [
  | inl own ↦ ap (is_within f q) own.1 ∙ is_within-self f q ∙ sym (ap (λ x. has x f) own.1) ∙ has-child f c q up
  | inr other ↦ is_within-up f q c q h up other.1 ∙ is_within-self f q ∙ has-parent_of f c q up
]

-- where nothing is said along nodes, none of them says anything
pub says_none : (f : Forest) (xs : List ℕ) (q : ℕ) → said_by f xs ≡ [] → is_among q xs ≡ true → said f q ≡ []
says_none f [] q none at = absurd (cc)
says_none f (x ∷ xs) q none at =
    let each = both_none (said f x) (said_by f xs) none in
    elim (eqb_tells x q) [
      | inl own ↦ ap (said f) (sym own.1) ∙ each.0
      | inr other ↦ says_none f xs q each.1 (grind (arith, at, other))
    ]

-- the keys of a node that holds both texts: after the first text comes what is said from the last text on
pub record KeysJoined (g h : Forest) (s e q : ℕ) (front back : List ℕ) : Type 0 where
  pub rest : List ℕ
  pub keys : keys_within h q ≡ front ++ (s ∷ rest)
  pub says : said_by h rest ≡ said_by g (e ∷ back)

and_left : (p r : Bool) → (p && r) ≡ true → p ≡ true
and_left true r e = refl
and_left false r e = absurd (cc)

both_true : (p r : Bool) → p ≡ true → r ≡ true → (p && r) ≡ true
both_true p r one two = rw (one, two) refl

module _ (g h : Forest) (s e a b : ℕ) (ls rs : List ℕ) (j : Joining g h s e a b ls rs) where
  abbrev pub went : List ℕ
  went = spread (keys_within g) ls

  abbrev pub rest_keys : List ℕ
  rest_keys = spread (keys_within g) rs

  abbrev pub keep : ℕ → Bool
  keep x = not (is_among x went)

  pub not_both : (x : ℕ) → is_within g a x ≡ true → is_within g b x ≡ false
  not_both x one = grind (arith, one, is_within-apart g a b x j.order j.far_first j.far_last)

  child_up : (l : ℕ) → is_among l ls ≡ true → parent_of g l ≡ Some b
  child_up l at = parent_here g b l j.order (ap (is_among l) j.parts ∙ is_among-append l ls rs ∙ grind (arith, at))

  -- what went was below the second node, and wasn't it
  pub went_below : (x : ℕ) → is_among x went ≡ true → (is_within g b x ≡ true) × (x ≢ b)
  went_below x at =
      let one = in_one g ls x at in
      let up = child_up one.tree one.at in (
        is_within-trans g b one.tree x j.order (within_below g b one.tree j.order up) one.inside,
        λ same. absurd (grind (arith, same, one.inside, is_within-parent g one.tree b j.order up)),
      )

  closed : IsClosed keep g
  closed q c up gone =
      let one = in_one g ls q (grind (arith, gone)) in
      ap not (among_trees g ls one.tree c one.at (is_within-trans g one.tree q c j.order one.inside (within_below g q c j.order up)))

  closed_after : IsClosed keep h
  closed_after q c up gone =
      let low = went_below q (grind (arith, gone)) in
      let not_a : q ≢ a = λ same. absurd (grind (arith, same, low.0, j.far_first)) in
      let at : is_among c (children_of g q) ≡ true = ap (is_among c) (sym (j.others q not_a low.1)) ∙ child_of h q c j.order_after up in
      closed q c (parent_here g q c j.order at) gone

  kept_outside : (x : ℕ) → is_within g b x ≡ false → keep x ≡ true
  kept_outside x out = elim (cases_Bool (is_among x went)) [
    | inl bad ↦ absurd (grind (arith, out, went_below x bad))
    | inr fine ↦ ap not fine
  ]

  kept_b : keep b ≡ true
  kept_b = elim (cases_Bool (is_among b went)) [
    | inl bad ↦ absurd ((went_below b bad).1 refl)
    | inr fine ↦ ap not fine
  ]

  tops_went : filter keep ls ≡ []
  tops_went = filter-gone keep ls (λ l at.
      let up = child_up l at in
      ap not (among_trees g ls l l at (is_within-self g l ∙ has-child g l b up)))

  left : (q : ℕ) → filter keep (children_of h q) ≡ filter keep (children_of g q)
  left q = elim (eqb_tells q a) [
    | inl own ↦
        ap (λ x. filter keep (children_of h x)) own.1 ∙ ap (filter keep) j.first ∙ filter-append keep (children_of g a) ls
        ∙ ap (λ t. filter keep (children_of g a) ++ t) tops_went ∙ append-nil (filter keep (children_of g a))
        ∙ ap (λ x. filter keep (children_of g x)) (sym own.1)
    | inr not_a ↦ elim (eqb_tells q b) [
      | inl own ↦
          ap (λ x. filter keep (children_of h x)) own.1 ∙ ap (filter keep) j.last
          ∙ sym (ap (λ x. filter keep (children_of g x)) own.1 ∙ ap (filter keep) j.parts ∙ filter-append keep ls rs
          ∙ ap (λ t. t ++ filter keep rs) tops_went)
      | inr not_b ↦ ap (filter keep) (j.others q not_a.1 not_b.1)
    ]
  ]

  -- but for what went, the keys are the same
  pub same_but : (q : ℕ) → has q g ≡ true → keep q ≡ true → filter keep (keys_within h q) ≡ filter keep (keys_within g q)
  same_but q so stays = keys_alike keep g h j.order j.order_after closed closed_after j.there (λ x there kept. left x) q so stays

  -- a node that holds neither has the same keys
  pub same_keys : (q : ℕ) → has q g ≡ true → is_within g q a ≡ false → is_within g q b ≡ false → keys_within h q ≡ keys_within g q
  same_keys q = down g j.order (λ q. has q g ≡ true → is_within g q a ≡ false → is_within g q b ≡ false → keys_within h q ≡ keys_within g q)
      (λ q each so one two.
      let own : is_within g q q ≡ true = is_within-self g q ∙ so in
      let same : children_of h q ≡ children_of g q =
      j.others q (λ same. absurd (grind (arith, one, own, ap (is_within g q) same))) (λ same. absurd (grind (arith, two, own, ap (is_within g q) same))) in
      keys-level h q j.order_after (j.there q so) ∙ ap (λ cs. q ∷ spread (keys_within h) cs) same
      ∙ ap (λ t. q ∷ t) (spread-same (keys_within h) (keys_within g) (children_of g q) (λ c at.
      let up = parent_here g q c j.order at in
      each c up (has-child g c q up) (out_of q c a up one) (out_of q c b up two)))
      ∙ sym (keys-level g q j.order so)) q where
        out_of : (q c x : ℕ) → parent_of g c ≡ Some q → is_within g q x ≡ false → is_within g c x ≡ false
        out_of q c x up out = elim (cases_Bool (is_within g c x)) [
          | inl bad ↦ absurd (let no : false ≡ true = sym out ∙ is_within-trans g q c x j.order (within_below g q c j.order up) bad in cc)
          | inr fine ↦ fine
        ]

  -- the first node has what went after its own
  pub first_keys : keys_within h a ≡ keys_within g a ++ went
  first_keys =
      let so : has a g ≡ true = holder_there g a s j.holds_first in
      let own : spread (keys_within h) (children_of g a) ≡ spread (keys_within g) (children_of g a) =
      spread-same (keys_within h) (keys_within g) (children_of g a) (λ c at.
      let up = parent_here g a c j.order at in
      let not_b : is_within g c b ≡ false = elim (cases_Bool (is_within g c b)) [
        | inl bad ↦ absurd (let no : false ≡ true = sym j.far_last ∙ is_within-trans g a c b j.order (within_below g a c j.order up) bad in cc)
        | inr fine ↦ fine
      ] in
      same_keys c (has-child g c a up) (is_within-parent g c a j.order up) not_b) in
      let more : spread (keys_within h) ls ≡ went =
      spread-same (keys_within h) (keys_within g) ls (λ c at.
      let up = child_up c at in
      let not_a : is_within g c a ≡ false = elim (cases_Bool (is_within g c a)) [
        | inl bad ↦ absurd (let no : false ≡ true = sym j.far_first ∙ is_within-trans g b c a j.order (within_below g b c j.order up) bad in cc)
        | inr fine ↦ fine
      ] in
      same_keys c (has-child g c b up) not_a (is_within-parent g c b j.order up)) in
      keys-level h a j.order_after (j.there a so) ∙ ap (λ cs. a ∷ spread (keys_within h) cs) j.first
      ∙ ap (λ t. a ∷ t) (spread-append (keys_within h) (children_of g a) ls ∙ ap₂ (λ x y. x ++ y) own more)
      ∙ ap (λ t. t ++ went) (sym (keys-level g a j.order so))

  pub last_keys : keys_within g b ≡ b ∷ (went ++ rest_keys)
  last_keys =
      keys-level g b j.order (holder_there g b e j.holds_last) ∙ ap (λ cs. b ∷ spread (keys_within g) cs) j.parts
      ∙ ap (λ t. b ∷ t) (spread-append (keys_within g) ls rs)

  kept_all : (xs : List ℕ) → ((x : ℕ) → is_among x xs ≡ true → is_among x went ≡ false) → filter keep xs ≡ xs
  kept_all xs out = filter-kept keep xs (λ x at. ap not (out x at))

  -- a list whose keys come once, of which a part has what went
  kept_around : (u k w : List ℕ) → NoRepeats (u ++ (k ++ w)) → AreIn went k → filter keep (u ++ (k ++ w)) ≡ u ++ (filter keep k ++ w)
  kept_around u k w once in_k =
      let tail = no_repeats_rest u (k ++ w) once in
      let front : filter keep u ≡ u = kept_all u (λ x at. elim (cases_Bool (is_among x went)) [
        | inl bad ↦ absurd (grind (arith, not_behind u (k ++ w) x once at, is_among-append x k w, in_k.each x bad))
        | inr fine ↦ fine
      ]) in
      let back : filter keep w ≡ w = kept_all w (λ x at. elim (cases_Bool (is_among x went)) [
        | inl bad ↦ absurd (grind (arith, not_ahead k w x tail at, in_k.each x bad))
        | inr fine ↦ fine
      ]) in
      filter-append keep u (k ++ w) ∙ ap₂ (λ x y. x ++ y) front (filter-append keep k w ∙ ap (λ t. filter keep k ++ t) back)

  went_gone : filter keep went ≡ []
  went_gone = filter-gone keep went (λ x at. ap not at)

  -- a node that holds both texts holds both nodes
  pub over_first : (q : ℕ) → is_within g q s ≡ true → is_within g q e ≡ true → is_within g q a ≡ true
  over_first q first last = elim (cases_Bool (is_within g q a)) [
    | inl so ↦ so
    | inr out ↦ elim (cases_Bool (is_within g a q)) [
      | inl below ↦ absurd (grind (arith, not_both e (is_within-trans g a q e j.order below last), j.holds_last))
      | inr apart ↦ absurd (grind (arith, is_within-apart g q a s j.order apart out, first, j.holds_first))
    ]
  ]

  pub over_last : (q : ℕ) → is_within g q s ≡ true → is_within g q e ≡ true → is_within g q b ≡ true
  over_last q first last = elim (cases_Bool (is_within g q b)) [
    | inl so ↦ so
    | inr out ↦ elim (cases_Bool (is_within g b q)) [
      | inl below ↦ absurd (grind (arith, not_both s j.holds_first, is_within-trans g b q s j.order below first))
      | inr apart ↦ absurd (grind (arith, is_within-apart g q b e j.order apart out, last, j.holds_last))
    ]
  ]

  pub over_stays : (q : ℕ) → is_within g q s ≡ true → keep q ≡ true
  over_stays q first = elim (cases_Bool (is_among q went)) [
    | inl bad ↦ absurd (grind (arith, not_both s j.holds_first, is_within-trans g b q s j.order (went_below q bad).0 first))
    | inr fine ↦ ap not fine
  ]

  -- the keys of a node that holds both texts, from which those of the first children come after the first text
  module _ (q : ℕ) (front back fa : List ℕ) (over : KeysOver g s e q front back) (own : keys_within g a ≡ fa ++ (s ∷ [])) where
    first : is_within g q s ≡ true
    first = holds_in g q s front (over.mid ++ (e ∷ back)) over.keys

    last : is_within g q e ≡ true
    last = holds_in g q e (front ++ (s ∷ over.mid)) back (over.keys ∙ sym (append_assoc front (s ∷ over.mid) (e ∷ back)))

    so : has q g ≡ true
    so = holder_there g q s first

    once : NoRepeats (front ++ (s ∷ (over.mid ++ (e ∷ back))))
    once = subst NoRepeats over.keys (no_repeats_within g q j.order)

    -- where the second node is
    record Second (u2 w : List ℕ) : Type 0 where
      at : keys_within g q ≡ (front ++ (s ∷ u2)) ++ (keys_within g b ++ w)
      says : said_by g (e ∷ back) ≡ (said_by g went ++ said_by g rest_keys) ++ said_by g w
      silent : said_by g u2 ≡ []
      own_silent : said g b ≡ []

    second : (u2 w : List ℕ) × Second u2 w
    second =
        let t = tree_in g q b j.order (over_last q first last) in
        let kb : List ℕ = keys_within g b in
        let e_in : is_among e kb ≡ true = among-within g b e ∙ j.holds_last in
        let s_out : is_among s kb ≡ false = among-within g b s ∙ not_both s j.holds_first in
        let once_t : NoRepeats (t.front ++ (kb ++ t.back)) = subst NoRepeats t.keys (no_repeats_within g q j.order) in
        let tail = no_repeats_rest t.front (kb ++ t.back) once_t in
        elim (cut_three s t.front kb t.back front (over.mid ++ (e ∷ back)) (sym t.keys ∙ over.keys)) [
          | inl f ↦ elim (cut_three e f.mid kb t.back over.mid back (sym f.rest)) [
            | inl x ↦
                let in_front : is_among e t.front ≡ true =
                ap (is_among e) f.is ∙ is_among-append e front (s ∷ f.mid)
                ∙ grind (arith, ap (is_among e) x.is, is_among-append e over.mid (e ∷ x.mid), eqb_tells e e) in
                absurd (grind (arith, not_behind t.front (kb ++ t.back) e once_t in_front, is_among-append e kb t.back, e_in))
            | inr (inl x) ↦
                let none = both_none (said_by g f.mid) (said_by g x.front)
                (sym (said-append g f.mid x.front) ∙ ap (said_by g) (sym x.ahead) ∙ over.silent) in
                let b_silent : said g b ≡ [] =
                elim (head_at b (went ++ rest_keys) x.front e x.back (sym last_keys ∙ x.is)) [
                  | inl same ↦ absurd (j.apart same)
                  | inr among ↦ says_none g x.front b none.1 among
                ] in
                let kb_says : said_by g kb ≡ said_by g went ++ said_by g rest_keys =
                ap (said_by g) last_keys ∙ ap₂ (λ p r. p ++ r) b_silent (said-append g went rest_keys) in
                let tail_says : said_by g (e ∷ x.back) ≡ said_by g kb =
                sym (ap (said_by g) x.is ∙ said-append g x.front (e ∷ x.back) ∙ ap (λ t. t ++ said_by g (e ∷ x.back)) none.1) in (
                  f.mid,
                  t.back,
                  record {
                    at = t.keys ∙ ap (λ u. u ++ (kb ++ t.back)) f.is;
                    says = ap (λ r. said_by g (e ∷ r)) x.rest ∙ said-append g (e ∷ x.back) t.back
                        ∙ ap (λ r. r ++ said_by g t.back) (tail_says ∙ kb_says);
                    silent = none.0;
                    own_silent = b_silent;
                  },
                )
            | inr (inr x) ↦
                let in_back : is_among e t.back ≡ true = ap (is_among e) x.is ∙ is_among-append e x.mid (e ∷ back) ∙ grind (arith, eqb_tells e e) in
                absurd (grind (arith, not_ahead kb t.back e tail in_back, e_in))
          ]
          | inr (inl f) ↦
              absurd (grind (arith, s_out, ap (is_among s) f.is, is_among-append s f.front (s ∷ f.back), eqb_tells s s))
          | inr (inr f) ↦
              let in_front : is_among e front ≡ true =
              ap (is_among e) f.ahead ∙ is_among-append e t.front (kb ++ f.mid) ∙ grind (arith, is_among-append e kb f.mid, e_in) in
              absurd (grind (arith, not_behind front (s ∷ (over.mid ++ (e ∷ back))) e once in_front, is_among-append e over.mid (e ∷ back), eqb_tells e e))
        ]

    pub joined_keys : KeysJoined g h s e q front back
    joined_keys =
        let x = second in
        let u2 : List ℕ = x.0 in
        let w2 : List ℕ = x.1 in
        let two = x.2 in
        let kept : List ℕ = u2 ++ (b ∷ (rest_keys ++ w2)) in
        let both : filter keep (keys_within h q) ≡ filter keep (keys_within g q) = same_but q so (over_stays q first) in
        let once_b : NoRepeats (b ∷ (went ++ rest_keys)) = subst NoRepeats last_keys (no_repeats_within g b j.order) in
        let in_b : AreIn went (keys_within g b) = record { each = λ k at. among-within g b k ∙ (went_below k at).0 } in
        let of_last : filter keep (keys_within g b) ≡ b ∷ rest_keys =
        ap (filter keep) last_keys ∙ ap (λ t. cond t (b ∷ filter keep (went ++ rest_keys)) (filter keep (went ++ rest_keys))) kept_b
        ∙ ap (λ t. b ∷ t) (filter-append keep went rest_keys
        ∙ ap₂ (λ p r. p ++ r) went_gone (kept_all rest_keys (λ k at. not_ahead went rest_keys k once_b.1 at))) in
        let once_q : NoRepeats ((front ++ (s ∷ u2)) ++ (keys_within g b ++ w2)) = subst NoRepeats two.at (no_repeats_within g q j.order) in
        let old : filter keep (keys_within g q) ≡ front ++ (s ∷ kept) =
        ap (filter keep) two.at ∙ kept_around (front ++ (s ∷ u2)) (keys_within g b) w2 once_q in_b
        ∙ ap (λ t. (front ++ (s ∷ u2)) ++ (t ++ w2)) of_last ∙ append_assoc front (s ∷ u2) (b ∷ (rest_keys ++ w2)) in
        let a_there : is_within h q a ≡ true =
        sym (among-within h q a)
        ∙ and_left (is_among a (keys_within h q)) (keep a)
        (sym (filter_among keep (keys_within h q) a) ∙ ap (is_among a) both ∙ filter_among keep (keys_within g q) a
        ∙ both_true (is_among a (keys_within g q)) (keep a) (among-within g q a ∙ over_first q first last) (kept_outside a j.far_first)) in
        let t = tree_in h q a j.order_after a_there in
        let once_h : NoRepeats (t.front ++ (keys_within h a ++ t.back)) = subst NoRepeats t.keys (no_repeats_within h q j.order_after) in
        let in_a : AreIn went (keys_within h a) =
        record { each = λ k at. ap (is_among k) first_keys ∙ is_among-append k (keys_within g a) went ∙ grind (arith, at) } in
        let of_first : filter keep (keys_within h a) ≡ fa ++ (s ∷ []) =
        ap (filter keep) first_keys ∙ filter-append keep (keys_within g a) went
        ∙ ap₂ (λ p r. p ++ r) (kept_all (keys_within g a) (λ k at. elim (cases_Bool (is_among k went)) [
          | inl bad ↦ absurd (grind (arith, not_both k (sym (among-within g a k) ∙ at), (went_below k bad).0))
          | inr fine ↦ fine
        ])) went_gone
        ∙ append-nil (keys_within g a) ∙ own in
        let new : filter keep (keys_within h q) ≡ (t.front ++ fa) ++ (s ∷ t.back) =
        ap (filter keep) t.keys ∙ kept_around t.front (keys_within h a) t.back once_h in_a
        ∙ ap (λ r. t.front ++ (r ++ t.back)) of_first ∙ ap (λ r. t.front ++ r) (append_assoc fa (s ∷ []) t.back)
        ∙ sym (append_assoc t.front fa (s ∷ t.back)) in
        let s_there : is_among s (keys_within h a ++ t.back) ≡ true =
        is_among-append s (keys_within h a) t.back
        ∙ grind (arith, ap (is_among s) first_keys, is_among-append s (keys_within g a) went, among-within g a s, j.holds_first) in
        let once_a : NoRepeats (fa ++ (s ∷ [])) = subst NoRepeats own (no_repeats_within g a j.order) in
        let out : is_among s (t.front ++ fa) ≡ false =
        is_among-append s t.front fa
        ∙ grind (arith, not_ahead t.front (keys_within h a ++ t.back) s once_h s_there, not_ahead fa (s ∷ []) s once_a (grind (arith, eqb_tells s s))) in
        let out_front : is_among s front ≡ false =
        not_ahead front (s ∷ (over.mid ++ (e ∷ back))) s once (grind (arith, eqb_tells s s)) in
        let cut = same_cut s (t.front ++ fa) t.back front kept out out_front (sym new ∙ both ∙ old) in
        let says_all : (xs : List ℕ) → said_by h xs ≡ said_by g xs = λ xs. said-same g h xs (λ k at. j.says k) in
        record {
          rest = went ++ t.back;
          keys = t.keys ∙ ap (λ r. t.front ++ (r ++ t.back)) (first_keys ∙ ap (λ r. r ++ went) own)
              ∙ ap (λ r. t.front ++ r) (append_assoc (fa ++ (s ∷ [])) went t.back ∙ append_assoc fa (s ∷ []) (went ++ t.back))
              ∙ sym (append_assoc t.front fa (s ∷ (went ++ t.back)))
              ∙ ap (λ r. r ++ (s ∷ (went ++ t.back))) cut.front;
          says = says_all (went ++ t.back) ∙ ap (λ r. said_by g (went ++ r)) cut.rest ∙ said-append g went kept
              ∙ ap (λ r. said_by g went ++ r) (said-append g u2 (b ∷ (rest_keys ++ w2))
              ∙ ap₂ (λ p r. p ++ (r ++ said_by g (rest_keys ++ w2))) two.silent two.own_silent ∙ said-append g rest_keys w2)
              ∙ sym (append_assoc (said_by g went) (said_by g rest_keys) (said_by g w2))
              ∙ sym two.says;
        }

  -- what is read in the first node then
  pub first_reads : read_in h a ≡ read_in g a ++ said_by g went
  first_reads =
      said-same g h (keys_within h a) (λ k at. j.says k) ∙ ap (said_by g) first_keys ∙ said-append g (keys_within g a) went
