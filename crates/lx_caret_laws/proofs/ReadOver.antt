-- What is read in a node where all that lies wholly between two leaves went.
use Rattle.lx_caret_laws.proofs.CutLists.{AreIn, HasBoth, HasFirst, HasLast, Parted}
use Rattle.lx_caret_laws.proofs.InPlace.{IsIn, among-within}
use Rattle.lx_caret_laws.proofs.KeysLeft.{holder_there, keys_left}
use Rattle.lx_caret_laws.proofs.LyingBetween.{Between, holds_in, is_out, names, out_below, out_clear}
use Rattle.lx_caret_laws.specs.Reading.{place_along, place_in, read_in, said, said_by}
use Rattle.lx_edit.specs.Edits.{text_point}
use Rattle.lx_edit_laws.proofs.WrapLists.{filter-gone, filter-kept}
use Rattle.lx_forest.proofs.Lookups.{has-child, has-parent_of}
use Rattle.lx_forest.proofs.Within.{is_within-self, is_within-trans, is_within-up}
use Rattle.lx_forest.specs.Forest.{Forest}
use Rattle.lx_forest.specs.Lookups.{IsForest, children_of, has, is_within, keys_within, parent_of}
use Rattle.lx_text.proofs.Places.{length-append, length-none}
use Rattle.lx_text.proofs.Told.{front_at, rest_at, offset_at}
use Rattle.lx_text.specs.Texts.{front_of, rest_of, text_length, is_offset}
use Rattle.lx_trees.proofs.Siblings.{is_among-append}
use Rattle.lx_trees.specs.Siblings.{is_among}
use Rattle.std.proofs.Common.{Bool, List, Some, [], ap, append-nil, append_assoc, ap₂, arith, cond, eqb, false, inl, inr, not, refl, sym, true, ℕ, ◌++◌, ◌+◌, ◌∙◌, ◌∷◌, ◌≡◌, ◌≢◌}
use Rattle.std.proofs.lemmas.Bool.{cases_Bool}
use Rattle.std.proofs.lemmas.Bool.Decides.{eqb_tells}
use Rattle.std.proofs.lemmas.List.Elements.{filter-append}
use Rattle.std.specs.Prelude.{filter}

-- ---- what is said along nodes

pub said-append : (f : Forest) (xs ys : List ℕ) → said_by f (xs ++ ys) ≡ said_by f xs ++ said_by f ys
said-append f [] ys = refl
said-append f (x ∷ xs) ys = ap (λ t. said f x ++ t) (said-append f xs ys) ∙ sym (append_assoc (said f x) (said_by f xs) (said_by f ys))

pub said-same : (f g : Forest) (xs : List ℕ) → ((q : ℕ) → is_among q xs ≡ true → said g q ≡ said f q) → said_by g xs ≡ said_by f xs
said-same f g [] each = refl
said-same f g (x ∷ xs) each =
    ap₂ (λ p q. p ++ q) (each x (grind (arith, eqb_tells x x))) (said-same f g xs (λ q at. each q (grind (arith, at))))

pub said-none : (f : Forest) (xs : List ℕ) → ((q : ℕ) → is_among q xs ≡ true → said f q ≡ []) → said_by f xs ≡ []
said-none f [] each = refl
said-none f (x ∷ xs) each =
    ap₂ (λ p q. p ++ q) (each x (grind (arith, eqb_tells x x))) (said-none f xs (λ q at. each q (grind (arith, at))))

-- where a point in a text is along nodes
pub place_at : (f : Forest) (x i : ℕ) (front rest : List ℕ) → is_among x front ≡ false
    → place_along f (text_point x i) (front ++ (x ∷ rest)) ≡ text_length (said_by f front) + i
place_at f x i [] rest out =
    let own : eqb x x ≡ true = grind (arith, eqb_tells x x) in
    ap (λ t. cond t i (text_length (said f x) + place_along f (text_point x i) rest)) own ∙ omega (arith, length-none)
place_at f x i (y ∷ front) rest out =
    let other : eqb x y ≡ false = grind (arith, out, eqb_tells x y, eqb_tells y x) in
    ap (λ t. cond t i (text_length (said f y) + place_along f (text_point x i) (front ++ (x ∷ rest)))) other
    ∙ ap (λ n. text_length (said f y) + n) (place_at f x i front rest (grind (arith, out)))
    ∙ omega (arith, length-append (said f y) (said_by f front))

-- ---- what is left

-- all that lies wholly between two leaves went, and the leaves say this now
pub record LeftOver (f g : Forest) (s e : ℕ) (a m z one other : List ℕ) : Type 0 where
  pub between : Between f s e a m z
  pub order_after : IsForest g
  pub first_says : said g s ≡ one
  pub last_says : said g e ≡ other
  pub others_say : (q : ℕ) → q ≢ s → q ≢ e → said g q ≡ said f q
  pub there : (q : ℕ) → has q f ≡ true → has q g ≡ true
  pub children : (q : ℕ) → has q f ≡ true → is_out f m e q ≡ false
      → children_of g q ≡ filter (λ c. not (is_out f m e c)) (children_of f q)
  -- what holds the last says nothing of its own
  pub silent : (q : ℕ) → is_among q m ≡ true → is_within f q e ≡ true → said f q ≡ []

-- the keys of a node that holds both, between which nothing is said
pub record KeysOver (g : Forest) (s e q : ℕ) (front back : List ℕ) : Type 0 where
  pub mid : List ℕ
  pub keys : keys_within g q ≡ front ++ (s ∷ (mid ++ (e ∷ back)))
  pub silent : said_by g mid ≡ []

-- the keys of a node that holds the last, before which nothing is said
pub record KeysFrom (g : Forest) (e q : ℕ) (back : List ℕ) : Type 0 where
  pub mid : List ℕ
  pub keys : keys_within g q ≡ mid ++ (e ∷ back)
  pub silent : said_by g mid ≡ []

module _ (f g : Forest) (s e : ℕ) (a m z one other : List ℕ) (l : LeftOver f g s e a m z one other) where
  known : Parted s e a m z
  known = names f s e a m z l.between

  abbrev pub keep : ℕ → Bool
  keep c = not (is_out f m e c)

  -- the keys that are left in a node that holds one of the two
  pub keys_of : (q x : ℕ) → is_within f q x ≡ true → is_out f m e q ≡ false → keys_within g q ≡ filter keep (keys_within f q)
  keys_of q x inside stays =
      keys_left keep f g l.between.order l.order_after
      (λ q c up no. ap not (out_below f s e a m z l.between q c (grind (arith, no)) (within_below q c up)))
      l.there (λ q so yes. l.children q so (grind (arith, yes))) q (holder_there f q x inside) (ap not stays) where
        within_below : (q c : ℕ) → parent_of f c ≡ Some q → is_within f q c ≡ true
        within_below q c up = elim (eqb_tells c q) [
          | inl own ↦ ap (is_within f q) own.1 ∙ is_within-self f q ∙ sym (ap (λ x. has x f) own.1) ∙ has-child f c q up
          | inr other ↦ is_within-up f q c q l.between.order up other.1 ∙ is_within-self f q ∙ has-parent_of f c q up
        ]

  kept_front : (xs : List ℕ) → AreIn xs a → filter keep xs ≡ xs
  kept_front xs in_a = filter-kept keep xs (λ q at. grind (arith, known.front_mid q (in_a.each q at)))

  kept_back : (xs : List ℕ) → AreIn xs z → filter keep xs ≡ xs
  kept_back xs in_z = filter-kept keep xs (λ q at. grind (arith, known.mid_back q (in_z.each q at)))

  keep_s : keep s ≡ true
  keep_s = grind (arith, known.s_mid)

  keep_e : keep e ≡ true
  keep_e = grind (arith, known.e_mid)

  -- what is left between says nothing
  mid_silent : (xs : List ℕ) → AreIn xs m → said_by g (filter keep xs) ≡ []
  mid_silent [] in_m = refl
  mid_silent (x ∷ xs) in_m =
      let at : is_among x m ≡ true = in_m.each x (grind (arith, eqb_tells x x)) in
      let more : said_by g (filter keep xs) ≡ [] = mid_silent xs (record { each = λ q at. in_m.each q (grind (arith, at)) }) in
      elim (cases_Bool (is_within f x e)) [
        | inl holds ↦
            let stays : keep x ≡ true = grind (arith, at, holds) in
            let none : said g x ≡ [] =
            l.others_say x (λ same. absurd (grind (arith, same, at, known.s_mid))) (λ same. absurd (grind (arith, same, at, known.e_mid)))
            ∙ l.silent x at holds in
            ap (said_by g) (ap (λ t. cond t (x ∷ filter keep xs) (filter keep xs)) stays) ∙ ap₂ (λ p q. p ++ q) none more
        | inr far ↦
            let goes : keep x ≡ false = grind (arith, at, far) in
            ap (said_by g) (ap (λ t. cond t (x ∷ filter keep xs) (filter keep xs)) goes) ∙ more
      ]

  pub front_says : (xs : List ℕ) → AreIn xs a → said_by g xs ≡ said_by f xs
  front_says xs in_a = said-same f g xs (λ q at.
      l.others_say q (λ same. absurd (grind (arith, same, in_a.each q at, known.s_front)))
      (λ same. absurd (grind (arith, same, in_a.each q at, known.e_front))))

  pub back_says : (xs : List ℕ) → AreIn xs z → said_by g xs ≡ said_by f xs
  back_says xs in_z = said-same f g xs (λ q at.
      l.others_say q (λ same. absurd (grind (arith, same, in_z.each q at, known.s_back)))
      (λ same. absurd (grind (arith, same, in_z.each q at, known.e_back))))

  -- in a node that holds both
  pub left_both : (q : ℕ) (k : HasBoth s e a m z (keys_within f q)) → KeysOver g s e q k.front k.back
  left_both q k =
      let holds : is_within f q e ≡ true = holds_in f q e (k.front ++ (s ∷ m)) k.back (k.is ∙ sym (append_assoc k.front (s ∷ m) (e ∷ k.back))) in
      let parts : filter keep (keys_within f q) ≡ filter keep k.front ++ (s ∷ (filter keep m ++ (e ∷ filter keep k.back))) =
      ap (filter keep) k.is ∙ filter-append keep k.front (s ∷ (m ++ (e ∷ k.back)))
      ∙ ap (λ t. filter keep k.front ++ t) (ap (λ t. cond t (s ∷ filter keep (m ++ (e ∷ k.back))) (filter keep (m ++ (e ∷ k.back)))) keep_s
      ∙ ap (λ t. s ∷ t) (filter-append keep m (e ∷ k.back)
      ∙ ap (λ t. filter keep m ++ t) (ap (λ t. cond t (e ∷ filter keep k.back) (filter keep k.back)) keep_e))) in
      record {
        mid = filter keep m;
        keys = keys_of q e holds (grind (arith, holds)) ∙ parts
            ∙ ap₂ (λ x y. x ++ (s ∷ (filter keep m ++ (e ∷ y)))) (kept_front k.front k.ahead) (kept_back k.back k.behind);
        silent = mid_silent m (record { each = λ q at. at });
      }

  -- in one that holds the first alone
  pub left_first : (q : ℕ) (k : HasFirst s e a m z (keys_within f q)) → is_within f q e ≡ false → keys_within g q ≡ k.front ++ (s ∷ [])
  left_first q k far =
      let holds : is_within f q s ≡ true = holds_in f q s k.front k.back k.is in
      let stays : is_out f m e q ≡ false = elim (cases_Bool (is_out f m e q)) [
        | inl out ↦ absurd (let bad : false ≡ true = sym (out_clear f s e a m z l.between q out) ∙ holds in cc)
        | inr fine ↦ fine
      ] in
      let none : filter keep k.back ≡ [] = filter-gone keep k.back (λ x at.
      let in_m = k.inside.each x at in
      let in_q : is_within f q x ≡ true =
      sym (among-within f q x) ∙ ap (is_among x) k.is ∙ is_among-append x k.front (s ∷ k.back) ∙ grind (arith, at) in
      elim (cases_Bool (is_within f x e)) [
        | inl bad ↦ absurd (let no : false ≡ true = sym far ∙ is_within-trans f q x e l.between.order in_q bad in cc)
        | inr away ↦ grind (arith, in_m, away)
      ]) in
      keys_of q s holds stays ∙ ap (filter keep) k.is ∙ filter-append keep k.front (s ∷ k.back)
      ∙ ap₂ (λ x y. x ++ y) (kept_front k.front k.ahead)
      (ap (λ t. cond t (s ∷ filter keep k.back) (filter keep k.back)) keep_s ∙ ap (λ t. s ∷ t) none)

  -- in one that holds the last alone
  pub left_last : (q : ℕ) (k : HasLast s e a m z (keys_within f q)) → KeysFrom g e q k.back
  left_last q k =
      let holds : is_within f q e ≡ true = holds_in f q e k.front k.back k.is in
      record {
        mid = filter keep k.front;
        keys = keys_of q e holds (grind (arith, holds)) ∙ ap (filter keep) k.is ∙ filter-append keep k.front (e ∷ k.back)
            ∙ ap (λ t. filter keep k.front ++ t)
            (ap (λ t. cond t (e ∷ filter keep k.back) (filter keep k.back)) keep_e ∙ ap (λ t. e ∷ t) (kept_back k.back k.behind));
        silent = mid_silent k.front k.inside;
      }

-- ---- what is read

-- what is before, within and after what goes, of all
regroup : (a x y m u v r : List ℕ) → a ++ ((x ++ y) ++ (m ++ ((u ++ v) ++ r))) ≡ (a ++ x) ++ (y ++ (m ++ u)) ++ (v ++ r)
regroup a x y m u v r =
    let tail : List ℕ = v ++ r in
    let inner : (x ++ y) ++ (m ++ ((u ++ v) ++ r)) ≡ x ++ ((y ++ (m ++ u)) ++ tail) =
    append_assoc x y (m ++ ((u ++ v) ++ r))
    ∙ ap (λ t. x ++ (y ++ t)) (ap (λ t. m ++ t) (append_assoc u v r) ∙ sym (append_assoc m u tail))
    ∙ ap (λ t. x ++ t) (sym (append_assoc y (m ++ u) tail)) in
    ap (λ t. a ++ t) inner
    ∙ sym (append_assoc a x ((y ++ (m ++ u)) ++ tail))
    ∙ sym (append_assoc (a ++ x) (y ++ (m ++ u)) tail)

-- in a node that holds both texts what is between the two places went
pub reads_over : (f h : Forest) (q s e i j : ℕ) (front m back left rest x y u v : List ℕ)
    → keys_within f q ≡ front ++ (s ∷ (m ++ (e ∷ back))) → is_among s front ≡ false → is_among e (front ++ (s ∷ m)) ≡ false
    → keys_within h q ≡ left ++ (s ∷ rest) → said f s ≡ x ++ y → said f e ≡ u ++ v → text_length x ≡ i → text_length u ≡ j
    → said h s ≡ x → said_by h left ≡ said_by f front → said_by h rest ≡ v ++ said_by f back
    → IsIn (place_in f q (text_point s i)) (place_in f q (text_point e j)) [] (read_in f q) (read_in h q)
reads_over f h q s e i j front m back left rest x y u v keys s_out e_out now one other long_x long_u says ahead behind =
    let a : List ℕ = said_by f front in
    let mid : List ℕ = said_by f m in
    let z : List ℕ = said_by f back in
    let moved : keys_within f q ≡ (front ++ (s ∷ m)) ++ (e ∷ back) = keys ∙ sym (append_assoc front (s ∷ m) (e ∷ back)) in
    let ahead_of_last : said_by f (front ++ (s ∷ m)) ≡ a ++ ((x ++ y) ++ mid) =
    said-append f front (s ∷ m) ∙ ap (λ t. a ++ (t ++ mid)) one in
    let start : place_in f q (text_point s i) ≡ text_length a + i =
    ap (place_along f (text_point s i)) keys ∙ place_at f s i front (m ++ (e ∷ back)) s_out in
    let stop : place_in f q (text_point e j) ≡ text_length (a ++ ((x ++ y) ++ mid)) + j =
    ap (place_along f (text_point e j)) moved ∙ place_at f e j (front ++ (s ∷ m)) back e_out
    ∙ ap (λ t. text_length t + j) ahead_of_last in
    record {
      front = a ++ x;
      gone = y ++ (mid ++ u);
      back = v ++ z;
      old_is = ap (said_by f) keys ∙ said-append f front (s ∷ (m ++ (e ∷ back)))
          ∙ ap (λ t. a ++ (said f s ++ t)) (said-append f m (e ∷ back))
          ∙ ap₂ (λ p r. a ++ (p ++ (mid ++ (r ++ z)))) one other
          ∙ regroup a x y mid u v z;
      now_is = ap (said_by h) now ∙ said-append h left (s ∷ rest)
          ∙ ap₂ (λ p r. p ++ (r ++ said_by h rest)) ahead says
          ∙ ap (λ t. a ++ (x ++ t)) behind
          ∙ sym (append_assoc a x (v ++ z))
          ∙ ap (λ t. t ++ (v ++ z)) (sym (append-nil (a ++ x)));
      start = omega (arith, start, long_x, length-append a x);
      end = omega (
        arith,
        stop,
        long_x,
        long_u,
        length-append (a ++ x) (y ++ (mid ++ u)),
        length-append a x,
        length-append y (mid ++ u),
        length-append mid u,
        length-append a ((x ++ y) ++ mid),
        length-append (x ++ y) mid,
        length-append x y,
      );
    }

-- in one that holds the first alone its front is left
pub reads_front : (f h : Forest) (q s i : ℕ) (front back x y : List ℕ) → keys_within f q ≡ front ++ (s ∷ back) → is_among s front ≡ false
    → keys_within h q ≡ front ++ (s ∷ []) → said f s ≡ x ++ y → text_length x ≡ i → said h s ≡ x → said_by h front ≡ said_by f front
    → read_in h q ≡ front_of (place_in f q (text_point s i)) (read_in f q)
reads_front f h q s i front back x y keys s_out now one long says ahead =
    let a : List ℕ = said_by f front in
    let start : place_in f q (text_point s i) ≡ text_length a + i =
    ap (place_along f (text_point s i)) keys ∙ place_at f s i front back s_out in
    let old : read_in f q ≡ (a ++ x) ++ (y ++ said_by f back) =
    ap (said_by f) keys ∙ said-append f front (s ∷ back) ∙ ap (λ t. a ++ (t ++ said_by f back)) one
    ∙ ap (λ t. a ++ t) (append_assoc x y (said_by f back)) ∙ sym (append_assoc a x (y ++ said_by f back)) in
    ap (said_by h) now ∙ said-append h front (s ∷ []) ∙ ap₂ (λ p r. p ++ (r ++ [])) ahead says
    ∙ ap (λ t. a ++ t) (append-nil x)
    ∙ sym (front_at (place_in f q (text_point s i)) (a ++ x) (y ++ said_by f back) (read_in f q) old (omega (arith, start, long, length-append a x)))

-- and the first place is one of it
pub offset_front : (f : Forest) (q s i : ℕ) (front back x y : List ℕ) → keys_within f q ≡ front ++ (s ∷ back) → is_among s front ≡ false
    → said f s ≡ x ++ y → text_length x ≡ i → is_offset (place_in f q (text_point s i)) (read_in f q) ≡ true
offset_front f q s i front back x y keys s_out one long =
    let a : List ℕ = said_by f front in
    let start : place_in f q (text_point s i) ≡ text_length a + i =
    ap (place_along f (text_point s i)) keys ∙ place_at f s i front back s_out in
    let old : read_in f q ≡ (a ++ x) ++ (y ++ said_by f back) =
    ap (said_by f) keys ∙ said-append f front (s ∷ back) ∙ ap (λ t. a ++ (t ++ said_by f back)) one
    ∙ ap (λ t. a ++ t) (append_assoc x y (said_by f back)) ∙ sym (append_assoc a x (y ++ said_by f back)) in
    offset_at (place_in f q (text_point s i)) (a ++ x) (y ++ said_by f back) (read_in f q) old (omega (arith, start, long, length-append a x))

-- in one that holds the last alone its rest is
pub reads_rest : (f h : Forest) (q e j : ℕ) (front back mid u v : List ℕ) → keys_within f q ≡ front ++ (e ∷ back) → is_among e front ≡ false
    → keys_within h q ≡ mid ++ (e ∷ back) → said f e ≡ u ++ v → text_length u ≡ j → said h e ≡ v → said_by h mid ≡ []
    → said_by h back ≡ said_by f back → read_in h q ≡ rest_of (place_in f q (text_point e j)) (read_in f q)
reads_rest f h q e j front back mid u v keys e_out now other long says silent behind =
    let a : List ℕ = said_by f front in
    let z : List ℕ = said_by f back in
    let start : place_in f q (text_point e j) ≡ text_length a + j =
    ap (place_along f (text_point e j)) keys ∙ place_at f e j front back e_out in
    let old : read_in f q ≡ (a ++ u) ++ (v ++ z) =
    ap (said_by f) keys ∙ said-append f front (e ∷ back) ∙ ap (λ t. a ++ (t ++ z)) other
    ∙ ap (λ t. a ++ t) (append_assoc u v z) ∙ sym (append_assoc a u (v ++ z)) in
    ap (said_by h) now ∙ said-append h mid (e ∷ back) ∙ ap₂ (λ p r. p ++ (r ++ said_by h back)) silent says
    ∙ ap (λ t. v ++ t) behind
    ∙ sym (rest_at (place_in f q (text_point e j)) (a ++ u) (v ++ z) (read_in f q) old (omega (arith, start, long, length-append a u)))
