-- Lists that are cut at one of their names, and parts of such lists.
use Rattle.lx_trees.proofs.Siblings.{is_among-append}
use Rattle.lx_trees.specs.Siblings.{NoRepeats, is_among}
use Rattle.std.proofs.Common.{List, [], ap, ap₂, arith, false, inl, inr, refl, sym, true, ℕ, ◌++◌, ◌∙◌, ◌∷◌, ◌≡◌, ◌⊎◌}
use Rattle.std.proofs.lemmas.Bool.Decides.{eqb_tells}

-- ---- a list in parts, cut at a name

-- the name is in the first part
pub record InFront (x : ℕ) (u back a r : List ℕ) : Type 0 where
  pub mid : List ℕ
  pub is : u ≡ a ++ (x ∷ mid)
  pub rest : r ≡ mid ++ back

-- in the second
pub record InMiddle (x : ℕ) (u k w a r : List ℕ) : Type 0 where
  pub front : List ℕ
  pub back : List ℕ
  pub is : k ≡ front ++ (x ∷ back)
  pub ahead : a ≡ u ++ front
  pub rest : r ≡ back ++ w

-- in the third
pub record InBack (x : ℕ) (u k w a r : List ℕ) : Type 0 where
  pub mid : List ℕ
  pub is : w ≡ mid ++ (x ∷ r)
  pub ahead : a ≡ u ++ (k ++ mid)

pub cut_two : (x : ℕ) (k w a r : List ℕ) → k ++ w ≡ a ++ (x ∷ r) → InMiddle x [] k w a r ⊎ InBack x [] k w a r
cut_two x [] w a r e = inr (record { mid = a; is = e; ahead = refl })
cut_two x (y ∷ k) w [] r e =
    let head : y ≡ x = cc in
    let tail : k ++ w ≡ r = cc in
    inl (record { front = []; back = k; is = ap (λ z. z ∷ k) head; ahead = refl; rest = sym tail })
cut_two x (y ∷ k) w (z ∷ a) r e =
    let head : y ≡ z = cc in
    let tail : k ++ w ≡ a ++ (x ∷ r) = cc in
    elim (cut_two x k w a r tail) [
      | inl m ↦ inl (record {
        front = y ∷ m.front;
        back = m.back;
        is = ap (λ t. y ∷ t) m.is;
        ahead = ap₂ (λ p q. p ∷ q) (sym head) m.ahead;
        rest = m.rest;
      })
      | inr b ↦ inr (record { mid = b.mid; is = b.is; ahead = ap₂ (λ p q. p ∷ q) (sym head) b.ahead })
    ]

pub cut_three : (x : ℕ) (u k w a r : List ℕ) → u ++ (k ++ w) ≡ a ++ (x ∷ r)
    → InFront x u (k ++ w) a r ⊎ (InMiddle x u k w a r ⊎ InBack x u k w a r)
cut_three x [] k w a r e = inr (cut_two x k w a r e)
cut_three x (y ∷ u) k w [] r e =
    let head : y ≡ x = cc in
    let tail : u ++ (k ++ w) ≡ r = cc in
    inl (record { mid = u; is = ap (λ z. z ∷ u) head; rest = sym tail })
cut_three x (y ∷ u) k w (z ∷ a) r e =
    let head : y ≡ z = cc in
    let tail : u ++ (k ++ w) ≡ a ++ (x ∷ r) = cc in
    elim (cut_three x u k w a r tail) [
      | inl f ↦ inl (record { mid = f.mid; is = ap₂ (λ p q. p ∷ q) head f.is; rest = f.rest })
      | inr (inl m) ↦ inr (inl (record {
        front = m.front;
        back = m.back;
        is = m.is;
        ahead = ap₂ (λ p q. p ∷ q) (sym head) m.ahead;
        rest = m.rest;
      }))
      | inr (inr b) ↦ inr (inr (record { mid = b.mid; is = b.is; ahead = ap₂ (λ p q. p ∷ q) (sym head) b.ahead }))
    ]

-- ---- one way to cut

pub record SameCut (a b c d : List ℕ) : Type 0 where
  pub front : a ≡ c
  pub rest : b ≡ d

-- a name cuts a list in one way where it is ahead of neither cut
pub same_cut : (x : ℕ) (a b c d : List ℕ) → is_among x a ≡ false → is_among x c ≡ false → a ++ (x ∷ b) ≡ c ++ (x ∷ d) → SameCut a b c d
same_cut x [] b [] d one two e = let tail : b ≡ d = cc in record { front = refl; rest = tail }
same_cut x [] b (y ∷ c) d one two e = let head : x ≡ y = cc in absurd (grind (arith, two, head, eqb_tells y x))
same_cut x (z ∷ a) b [] d one two e = let head : z ≡ x = cc in absurd (grind (arith, one, head, eqb_tells z x))
same_cut x (z ∷ a) b (y ∷ c) d one two e =
    let head : z ≡ y = cc in
    let tail : a ++ (x ∷ b) ≡ c ++ (x ∷ d) = cc in
    let more = same_cut x a b c d (grind (arith, one)) (grind (arith, two)) tail in
    record { front = ap₂ (λ p q. p ∷ q) head more.front; rest = more.rest }

-- ---- names that occur once

pub not_behind : (xs ys : List ℕ) (q : ℕ) → NoRepeats (xs ++ ys) → is_among q xs ≡ true → is_among q ys ≡ false
not_behind [] ys q once e = absurd (cc)
not_behind (x ∷ xs) ys q once e =
    grind (arith, e, once.0, is_among-append x xs ys, eqb_tells x q, not_behind xs ys q once.1)

pub not_ahead : (xs ys : List ℕ) (q : ℕ) → NoRepeats (xs ++ ys) → is_among q ys ≡ true → is_among q xs ≡ false
not_ahead [] ys q once e = refl
not_ahead (x ∷ xs) ys q once e =
    grind (arith, e, once.0, is_among-append x xs ys, eqb_tells x q, not_ahead xs ys q once.1)

-- ---- no characters

pub both_none : (xs ys : List ℕ) → xs ++ ys ≡ [] → (xs ≡ []) × (ys ≡ [])
both_none [] ys e = (refl, e)
both_none (x ∷ xs) ys e = absurd (cc)

-- ---- a list with two names, and a part of it

-- all of one list are in another
pub record AreIn (xs ys : List ℕ) : Type 0 where
  pub each : (q : ℕ) → is_among q xs ≡ true → is_among q ys ≡ true

-- the part has both names, or the first, or the last
pub record HasBoth (s e : ℕ) (a m z k : List ℕ) : Type 0 where
  pub front : List ℕ
  pub back : List ℕ
  pub is : k ≡ front ++ (s ∷ (m ++ (e ∷ back)))
  pub ahead : AreIn front a
  pub behind : AreIn back z

pub record HasFirst (s e : ℕ) (a m z k : List ℕ) : Type 0 where
  pub front : List ℕ
  pub back : List ℕ
  pub is : k ≡ front ++ (s ∷ back)
  pub ahead : AreIn front a
  pub inside : AreIn back m

pub record HasLast (s e : ℕ) (a m z k : List ℕ) : Type 0 where
  pub front : List ℕ
  pub back : List ℕ
  pub is : k ≡ front ++ (e ∷ back)
  pub inside : AreIn front m
  pub behind : AreIn back z

-- or it is before them, between them or behind them
pub record HasNone (a m z k : List ℕ) : Type 0 where
  pub each : AreIn k a ⊎ (AreIn k m ⊎ AreIn k z)

abbrev pub Ways : (s e : ℕ) (a m z k : List ℕ) → Type 0
Ways s e a m z k = HasBoth s e a m z k ⊎ (HasFirst s e a m z k ⊎ (HasLast s e a m z k ⊎ HasNone a m z k))

-- a list is in one that comes of it
in_first : (xs ys all : List ℕ) → all ≡ xs ++ ys → AreIn xs all
in_first xs ys all is = record { each = λ q at. ap (is_among q) is ∙ is_among-append q xs ys ∙ grind (arith, at) }

in_second : (xs ys all : List ℕ) → all ≡ xs ++ ys → AreIn ys all
in_second xs ys all is = record { each = λ q at. ap (is_among q) is ∙ is_among-append q xs ys ∙ grind (arith, at) }

in_middle : (xs ys zs all : List ℕ) → all ≡ xs ++ (ys ++ zs) → AreIn ys all
in_middle xs ys zs all is =
    record { each = λ q at. ap (is_among q) is ∙ is_among-append q xs (ys ++ zs) ∙ grind (arith, at, is_among-append q ys zs) }

pub ways : (s e : ℕ) (a m z u k w : List ℕ) → u ++ (k ++ w) ≡ a ++ (s ∷ (m ++ (e ∷ z))) → Ways s e a m z k
ways s e a m z u k w eq = elim (cut_three s u k w a (m ++ (e ∷ z)) eq) [
  | inl f ↦ elim (cut_three e f.mid k w m z (sym f.rest)) [
    | inl g ↦ inr (inr (inr (record { each = inr (inr (in_middle g.mid k w z g.rest)) })))
    | inr (inl g) ↦ inr (inr (inl (record {
      front = g.front;
      back = g.back;
      is = g.is;
      inside = in_second f.mid g.front m g.ahead;
      behind = in_first g.back w z g.rest;
    })))
    | inr (inr g) ↦ inr (inr (inr (record { each = inr (inl (in_middle f.mid k g.mid m g.ahead)) })))
  ]
  | inr (inl f) ↦ elim (cut_two e f.back w m z (sym f.rest)) [
    | inl g ↦ inl (record {
      front = f.front;
      back = g.back;
      is = f.is ∙ ap (λ t. f.front ++ (s ∷ t)) (g.is ∙ ap (λ t. t ++ (e ∷ g.back)) (sym g.ahead));
      ahead = in_second u f.front a f.ahead;
      behind = in_first g.back w z g.rest;
    })
    | inr g ↦ inr (inl (record {
      front = f.front;
      back = f.back;
      is = f.is;
      ahead = in_second u f.front a f.ahead;
      inside = in_first f.back g.mid m g.ahead;
    }))
  ]
  | inr (inr f) ↦ inr (inr (inr (record { each = inl (in_middle u k f.mid a f.ahead) })))
]

-- what is known of such a list in which each name occurs once
pub record Parted (s e : ℕ) (a m z : List ℕ) : Type 0 where
  pub front_mid : (q : ℕ) → is_among q a ≡ true → is_among q m ≡ false
  pub mid_back : (q : ℕ) → is_among q z ≡ true → is_among q m ≡ false
  pub s_front : is_among s a ≡ false
  pub s_mid : is_among s m ≡ false
  pub s_back : is_among s z ≡ false
  pub e_front : is_among e a ≡ false
  pub e_mid : is_among e m ≡ false
  pub e_back : is_among e z ≡ false
  pub apart : s ≡ e → false ≡ true

pub no_repeats_rest : (xs ys : List ℕ) → NoRepeats (xs ++ ys) → NoRepeats ys
no_repeats_rest [] ys once = once
no_repeats_rest (x ∷ xs) ys once = no_repeats_rest xs ys once.1

pub parted : (s e : ℕ) (a m z : List ℕ) → NoRepeats (a ++ (s ∷ (m ++ (e ∷ z)))) → Parted s e a m z
parted s e a m z once =
    let rest : List ℕ = m ++ (e ∷ z) in
    let tail = no_repeats_rest a (s ∷ rest) once in
    let last = no_repeats_rest m (e ∷ z) tail.1 in
    record {
      front_mid = λ q at. grind (arith, not_behind a (s ∷ rest) q once at, is_among-append q m (e ∷ z));
      mid_back = λ q at. not_ahead m (e ∷ z) q tail.1 (grind (arith, at));
      s_front = not_ahead a (s ∷ rest) s once (grind (arith, eqb_tells s s));
      s_mid = grind (arith, tail.0, is_among-append s m (e ∷ z));
      s_back = grind (arith, tail.0, is_among-append s m (e ∷ z));
      e_front = not_ahead a (s ∷ rest) e once (grind (arith, is_among-append e m (e ∷ z), eqb_tells e e));
      e_mid = not_ahead m (e ∷ z) e tail.1 (grind (arith, eqb_tells e e));
      e_back = last.0;
      apart = λ same. grind (arith, same, tail.0, is_among-append s m (e ∷ z), eqb_tells e s);
    }
