-- Attributes written one after another, in byte order of their names, until they are those of another list.
use Rattle.std.proofs.Common.{◌≡◌, ◌≢◌, ℕ, ◌+◌, ◌<◌, ◌≤◌, true, List, [], ◌∷◌, ◌++◌, length, map, take, drop, get_or, Option, None, Some, refl, sym, ap, ◌∙◌, subst, arith, append_assoc, length-append, length-drop}
use Rattle.std.proofs.lemmas.Bool.{and_parts}
use Rattle.std.proofs.lemmas.Cmp.{nat_list_cmp_total, on_total}
use Rattle.std.proofs.lemmas.List.{take_more, drop_more, drop_all, map-append, append_cancel_left}
use Rattle.std.specs.Cmp.{IsTotalOrder}
use Rattle.std.specs.declared.cmp.Ordering.{Ordering}
use Rattle.std.specs.declared.cmp.Ordering.TheVariants.{Less, Equal, Greater}
use Rattle.std.specs.Ordering.{is_lt, ordering_reverse}
use Rattle.lx_host.specs.declared.tag.Name.{Name}
use Rattle.lx_host.specs.declared.op.Op.{Op}
use Rattle.lx_host.specs.declared.op.Op.TheVariants.{Attr}
use Rattle.lx_host.specs.Words.{name_word, names_rise, name_order, with_attribute}
use Rattle.lx_reconcile.specs.Changing.{write_op, all_written, AreAnew, next_order, Writes}

order : IsTotalOrder name_order
order = on_total name_word nat_list_cmp_total

only_equal : (o : Ordering) → o ≡ ordering_reverse o → o ≡ Equal
only_equal Less e = absurd (cc)
only_equal Equal e = refl
only_equal Greater e = absurd (cc)

same_name : (a : Name) → name_order a a ≡ Equal
same_name a = only_equal (name_order a a) (order.antisymm a a)

is_less : (o : Ordering) → is_lt o ≡ true → o ≡ Less
is_less Less e = refl
is_less Equal e = absurd (cc)
is_less Greater e = absurd (cc)

later : (a b : Name) → name_order a b ≡ Less → name_order b a ≡ Greater
later a b e = order.antisymm b a ∙ ap ordering_reverse e

earlier : (a b : Name) → name_order a b ≡ Greater → name_order b a ≡ Less
earlier a b e = order.antisymm b a ∙ ap ordering_reverse e

abbrev pub Attributes : Type 0
Attributes = List (Name × List ℕ)

-- each of these comes before the name
abbrev pub AllBefore : Name → Attributes → Type 0
AllBefore name [] = Unit {0}
AllBefore name (a ∷ rest) = (name_order name a.0 ≡ Greater) × AllBefore name rest

before_later : (name more : Name) (done : Attributes) → name_order name more ≡ Less → AllBefore name done → AllBefore more done
before_later name more [] e h = tt
before_later name more (a ∷ rest) e h =
    (later a.0 more (order.trans a.0 name more (earlier name a.0 h.0) e), before_later name more rest e h.1)

before_more : (name : Name) (done : Attributes) (a : Name × List ℕ) → AllBefore name done → name_order a.0 name ≡ Less → AllBefore name (done ++ a ∷ [])
before_more name [] a h e = (later a.0 name e, tt)
before_more name (b ∷ rest) a h e = (h.0, before_more name rest a h.1 e)

-- what is written of that name comes after them
pub with_behind : (name : Name) (value : Option (List ℕ)) (done rest : Attributes) → AllBefore name done
    → with_attribute name value (done ++ rest) ≡ done ++ with_attribute name value rest
with_behind name value [] rest h = refl
with_behind name value (a ∷ done) rest h = rw h.0 (ap (λ l. a ∷ l) (with_behind name value done rest h.1))

-- the first of these, if there is one, comes after those, and they rise
pub record IsBehind (done rest : Attributes) : Type 0 where
  pub rise : names_rise rest ≡ true
  pub first : (a : Name × List ℕ) (more : Attributes) → rest ≡ a ∷ more → AllBefore a.0 done

rise_less : (a b : Name × List ℕ) (more : Attributes) → names_rise (a ∷ b ∷ more) ≡ true → name_order a.0 b.0 ≡ Less
rise_less a b more e = is_less _ (and_parts (is_lt (name_order a.0 b.0)) _ e).0

rise_rest : (a : Name × List ℕ) (more : Attributes) → names_rise (a ∷ more) ≡ true → names_rise more ≡ true
rise_rest a [] e = refl
rise_rest a (b ∷ more) e = (and_parts _ _ e).1

first_is : (a b : Name × List ℕ) (xs ys : Attributes) → (a ∷ xs) ≡ (b ∷ ys) → a ≡ b
first_is a b xs ys e = cc

-- without the first one
behind_rest : (done : Attributes) (a : Name × List ℕ) (more : Attributes) → IsBehind done (a ∷ more) → IsBehind done more
behind_rest done a more h = record {
  rise = rise_rest a more h.rise;
  first = λ b rest is. before_later a.0 b.0 done (rise_less a b rest (subst (λ l. names_rise (a ∷ l) ≡ true) is h.rise)) (h.first a more refl);
}

-- with the first one done
pub behind_done : (done : Attributes) (a : Name × List ℕ) (more : Attributes) → IsBehind done (a ∷ more) → IsBehind (done ++ a ∷ []) more
behind_done done a more h = record {
  rise = rise_rest a more h.rise;
  first = λ b rest is. before_more b.0 done a ((behind_rest done a more h).first b rest is)
      (rise_less a b rest (subst (λ l. names_rise (a ∷ l) ≡ true) is h.rise));
}

-- with one done that comes before its first
behind_given : (done : Attributes) (b : Name × List ℕ) (rest : Attributes) → IsBehind done rest
    → ((a : Name × List ℕ) (more : Attributes) → rest ≡ a ∷ more → name_order b.0 a.0 ≡ Less) → IsBehind (done ++ b ∷ []) rest
behind_given done b rest h less = record {
  rise = h.rise;
  first = λ a more is. before_more a.0 done b (h.first a more is) (less a more is);
}

all_written-append : (writes more : List (Name × Option (List ℕ))) (attributes : Attributes)
    → all_written (writes ++ more) attributes ≡ all_written more (all_written writes attributes)
all_written-append [] more attributes = refl
all_written-append (write ∷ writes) more attributes = all_written-append writes more (with_attribute write.0 write.1 attributes)

anew-append : (writes more : List (Name × Option (List ℕ))) (attributes : Attributes) → AreAnew writes attributes → AreAnew more (all_written writes attributes)
    → AreAnew (writes ++ more) attributes
anew-append [] more attributes first then = then
anew-append (write ∷ writes) more attributes first then = (first.0, anew-append writes more (with_attribute write.0 write.1 attributes) first.1 then)

-- with one more or less they aren't the same, nor with another one in its place
less_one : (done old : Attributes) (a : Name × List ℕ) → done ++ old ≢ done ++ a ∷ old
less_one done old a e = absurd (omega (arith, ap length e, length-append done old, length-append done (a ∷ old)))

more_one : (done old : Attributes) (b : Name × List ℕ) → (done ++ b ∷ []) ++ old ≢ done ++ old
more_one done old b e = less_one done old b (sym e ∙ append_assoc done (b ∷ []) old)

other_one : (done old : Attributes) (a b : Name × List ℕ) → a ≢ b → (done ++ b ∷ []) ++ old ≢ done ++ a ∷ old
other_one done old a b other e =
    let rest : b ∷ old ≡ a ∷ old = append_cancel_left done (b ∷ old) (a ∷ old) (sym (append_assoc done (b ∷ []) old) ∙ e) in
    other (sym (first_is b a old old rest))

-- ---- how far the writing has come

-- Of the attributes before, `old` are still there, after those of the ones after that are done; `new` are still to
-- come.
pub record IsWriting (host : ℕ) (olds done old new : Attributes) (start now : List Op) : Type 0 where
  pub so_far : Writes host olds (done ++ old) start now
  pub old_behind : IsBehind done old
  pub new_behind : IsBehind done new

-- one more is written
write_more : (host : ℕ) (olds now to : Attributes) (start ops more : List Op) (name : Name) (value : Option (List ℕ)) → Writes host olds now start ops
    → with_attribute name value now ≡ to → to ≢ now → more ≡ ops ++ Attr host name value ∷ [] → Writes host olds to start more
write_more host olds now to start ops more name value w e other is = record {
  writes = w.writes ++ (name, value) ∷ [];
  list =
      is
      ∙ ap (λ l. l ++ Attr host name value ∷ []) w.list
      ∙ append_assoc start (map (write_op host) w.writes) (Attr host name value ∷ [])
      ∙ sym (ap (λ l. start ++ l) (map-append (write_op host) w.writes ((name, value) ∷ [])));
  written = all_written-append w.writes ((name, value) ∷ []) olds ∙ ap (with_attribute name value) w.written ∙ e;
  anew = anew-append w.writes ((name, value) ∷ []) olds w.anew (subst (λ l. with_attribute name value l ≢ l) (sym w.written) (λ x. other (sym e ∙ x)), tt);
}

-- what becomes of the rest
with_away : (a : Name × List ℕ) (rest : Attributes) → with_attribute a.0 None (a ∷ rest) ≡ rest
with_away a rest = rw (same_name a.0) refl

with_given : (b : Name × List ℕ) (rest : Attributes) → ((a : Name × List ℕ) (more : Attributes) → rest ≡ a ∷ more → name_order b.0 a.0 ≡ Less)
    → with_attribute b.0 (Some b.1) rest ≡ b ∷ rest
with_given b [] less = refl
with_given b (a ∷ rest) less = rw (less a rest refl) refl

with_same : (a b : Name × List ℕ) (rest : Attributes) → name_order a.0 b.0 ≡ Equal → with_attribute b.0 (Some b.1) (a ∷ rest) ≡ b ∷ rest
with_same a b rest e = rw (order.antisymm b.0 a.0 ∙ ap ordering_reverse e) refl

done_one : (b : Name × List ℕ) (done rest : Attributes) → done ++ b ∷ rest ≡ (done ++ b ∷ []) ++ rest
done_one b done rest = sym (append_assoc done (b ∷ []) rest)

-- the first of the old ones goes
pub goes_away : (host : ℕ) (olds done old new : Attributes) (a : Name × List ℕ) (start now more : List Op) → IsWriting host olds done (a ∷ old) new start now
    → more ≡ now ++ Attr host a.0 None ∷ [] → IsWriting host olds done old new start more
goes_away host olds done old new a start now more h is = record {
  so_far = write_more host olds (done ++ a ∷ old) (done ++ old) start now more a.0 None h.so_far
      (with_behind a.0 None done (a ∷ old) (h.old_behind.first a old refl) ∙ ap (λ l. done ++ l) (with_away a old)) (less_one done old a) is;
  old_behind = behind_rest done a old h.old_behind;
  new_behind = h.new_behind;
}

less_first : (b : Name × List ℕ) (old new : Attributes) → next_order old (b ∷ new) ≡ Some Greater → (a : Name × List ℕ) (more : Attributes) → old ≡ a ∷ more
    → name_order b.0 a.0 ≡ Less
less_first b old new e a more is =
    let own : next_order (a ∷ more) (b ∷ new) ≡ Some Greater = sym (ap (λ l. next_order l (b ∷ new)) is) ∙ e in
    let behind : name_order a.0 b.0 ≡ Greater = cc in
    earlier a.0 b.0 behind

-- the first of the new ones comes before the old ones
pub comes_before : (host : ℕ) (olds done old new : Attributes) (b : Name × List ℕ) (start now more : List Op) → IsWriting host olds done old (b ∷ new) start now
    → next_order old (b ∷ new) ≡ Some Greater → more ≡ now ++ Attr host b.0 (Some b.1) ∷ [] → IsWriting host olds (done ++ b ∷ []) old new start more
comes_before host olds done old new b start now more h e is = record {
  so_far = write_more host olds (done ++ old) ((done ++ b ∷ []) ++ old) start now more b.0 (Some b.1) h.so_far
      (with_behind b.0 (Some b.1) done old (h.new_behind.first b new refl) ∙ ap (λ l. done ++ l) (with_given b old (less_first b old new e))
      ∙ done_one b done old) (more_one done old b) is;
  old_behind = behind_given done b old h.old_behind (less_first b old new e);
  new_behind = behind_done done b new h.new_behind;
}

-- both have an attribute of one name, which is written, or is equal
pub is_written : (host : ℕ) (olds done old new : Attributes) (a b : Name × List ℕ) (start now more : List Op)
    → IsWriting host olds done (a ∷ old) (b ∷ new) start now → name_order a.0 b.0 ≡ Equal → a ≢ b → more ≡ now ++ Attr host b.0 (Some b.1) ∷ []
    → IsWriting host olds (done ++ b ∷ []) old new start more
is_written host olds done old new a b start now more h e other is = record {
  so_far = write_more host olds (done ++ a ∷ old) ((done ++ b ∷ []) ++ old) start now more b.0 (Some b.1) h.so_far
      (with_behind b.0 (Some b.1) done (a ∷ old) (h.new_behind.first b new refl) ∙ ap (λ l. done ++ l) (with_same a b old e) ∙ done_one b done old)
      (other_one done old a b other) is;
  old_behind = behind_given done b old (behind_rest done a old h.old_behind)
      (λ c rest same. sym (order.congr a.0 b.0 c.0 e) ∙ rise_less a c rest (subst (λ l. names_rise (a ∷ l) ≡ true) same h.old_behind.rise));
  new_behind = behind_done done b new h.new_behind;
}

pub is_equal : (host : ℕ) (olds done old new : Attributes) (a b : Name × List ℕ) (start now : List Op) → IsWriting host olds done (a ∷ old) (b ∷ new) start now
    → a ≡ b → IsWriting host olds (done ++ b ∷ []) old new start now
is_equal host olds done old new a b start now h e = record {
  so_far = subst (λ l. Writes host olds l start now) (ap (λ x. done ++ x ∷ old) e ∙ done_one b done old) h.so_far;
  old_behind = behind_done done b old (subst (λ x. IsBehind done (x ∷ old)) e h.old_behind);
  new_behind = behind_done done b new h.new_behind;
}

-- ---- by places

-- the attributes after up to place j are done, and those before up to place i are gone or done
pub record IsWritingAt (host : ℕ) (olds news : Attributes) (i j : ℕ) (start now : List Op) : Type 0 where
  pub at : IsWriting host olds (take j news) (drop i olds) (drop j news) start now
  pub old_within : i ≤ length olds
  pub new_within : j ≤ length news

pub less_within : (i j : ℕ) (xs ys : Attributes) → next_order (drop i xs) (drop j ys) ≡ Some Less → i < length xs
less_within i j xs ys e = grind (arith, e, length-drop i xs)

pub greater_within : (i j : ℕ) (xs ys : Attributes) → next_order (drop i xs) (drop j ys) ≡ Some Greater → j < length ys
greater_within i j xs ys e = grind (arith, e, length-drop j ys)

pub equal_within : (i j : ℕ) (xs ys : Attributes) → next_order (drop i xs) (drop j ys) ≡ Some Equal → (i < length xs) × (j < length ys)
equal_within i j xs ys e = (grind (arith, e, length-drop i xs), grind (arith, e, length-drop j ys))

pub only_old : (i j : ℕ) (xs ys : Attributes) → i < length xs → length ys ≤ j → Some Less ≡ next_order (drop i xs) (drop j ys)
only_old i j xs ys h e = grind (arith, h, length-drop i xs, drop_all j ys e)

pub only_new : (i j : ℕ) (xs ys : Attributes) → length xs ≤ i → j < length ys → Some Greater ≡ next_order (drop i xs) (drop j ys)
only_new i j xs ys e h = grind (arith, h, length-drop j ys, drop_all i xs e)

-- what is at a place
met : (xs : Attributes) (i : ℕ) (x : Name × List ℕ) → i < length xs → x ≡ get_or xs i x → drop i xs ≡ x ∷ drop (i + 1) xs
met xs i x within item = drop_more xs i x within ∙ ap (λ y. y ∷ drop (i + 1) xs) (sym item)

pub same_place : (xs : Attributes) (i : ℕ) (x y : Name × List ℕ) → i < length xs → x ≡ get_or xs i x → y ≡ get_or xs i y → x ≡ y
same_place xs i x y within item other = first_is x y (drop (i + 1) xs) (drop (i + 1) xs) (sym (met xs i x within item) ∙ met xs i y within other)

passed : (xs : Attributes) (i : ℕ) (x : Name × List ℕ) → i < length xs → x ≡ get_or xs i x → take (i + 1) xs ≡ take i xs ++ x ∷ []
passed xs i x within item = take_more xs i x within ∙ ap (λ y. take i xs ++ y ∷ []) (sym item)

module _ (host : ℕ) (olds news : Attributes) (i j : ℕ) (start now more : List Op) (w : IsWritingAt host olds news i j start now) where
  pub away_at : (a : Name × List ℕ) → i < length olds → a ≡ get_or olds i a → more ≡ now ++ Attr host a.0 None ∷ []
      → IsWritingAt host olds news (i + 1) j start more
  away_at a within item is = record {
    at = goes_away host olds (take j news) (drop (i + 1) olds) (drop j news) a start now more
        (subst (λ l. IsWriting host olds (take j news) l (drop j news) start now) (met olds i a within item) w.at) is;
    old_within = omega (arith, within);
    new_within = w.new_within;
  }

  pub given_at : (b : Name × List ℕ) → j < length news → b ≡ get_or news j b → next_order (drop i olds) (drop j news) ≡ Some Greater
      → more ≡ now ++ Attr host b.0 (Some b.1) ∷ [] → IsWritingAt host olds news i (j + 1) start more
  given_at b within item e is =
      let here = met news j b within item in
      record {
        at = subst (λ l. IsWriting host olds l (drop i olds) (drop (j + 1) news) start more) (sym (passed news j b within item)) (
            comes_before host olds (take j news) (drop i olds) (drop (j + 1) news) b start now more
            (subst (λ l. IsWriting host olds (take j news) (drop i olds) l start now) here w.at)
            (sym (ap (next_order (drop i olds)) here) ∙ e) is
            );
        old_within = w.old_within;
        new_within = omega (arith, within);
      }

  both_at : (a b : Name × List ℕ) → i < length olds → j < length news → a ≡ get_or olds i a → b ≡ get_or news j b
      → IsWriting host olds (take j news) (a ∷ drop (i + 1) olds) (b ∷ drop (j + 1) news) start now
  both_at a b within fits item other =
      subst (λ l. IsWriting host olds (take j news) l (b ∷ drop (j + 1) news) start now) (met olds i a within item)
      (subst (λ l. IsWriting host olds (take j news) (drop i olds) l start now) (met news j b fits other) w.at)

  order_met : (a b : Name × List ℕ) → i < length olds → j < length news → a ≡ get_or olds i a → b ≡ get_or news j b
      → next_order (drop i olds) (drop j news) ≡ Some Equal → name_order a.0 b.0 ≡ Equal
  order_met a b within fits item other e =
      let same : Some (name_order a.0 b.0) ≡ Some Equal =
      sym (ap (λ l. next_order l (b ∷ drop (j + 1) news)) (met olds i a within item)) ∙ sym (ap (next_order (drop i olds)) (met news j b fits other)) ∙ e in
      cc

  both_passed : (b : Name × List ℕ) → j < length news → b ≡ get_or news j b → i < length olds → (ops : List Op)
      → IsWriting host olds (take j news ++ b ∷ []) (drop (i + 1) olds) (drop (j + 1) news) start ops → IsWritingAt host olds news (i + 1) (j + 1) start ops
  both_passed b fits other within ops h = record {
    at = subst (λ l. IsWriting host olds l (drop (i + 1) olds) (drop (j + 1) news) start ops) (sym (passed news j b fits other)) h;
    old_within = omega (arith, within);
    new_within = omega (arith, fits);
  }

  pub written_at : (a b : Name × List ℕ) → i < length olds → j < length news → a ≡ get_or olds i a → b ≡ get_or news j b
      → next_order (drop i olds) (drop j news) ≡ Some Equal → a ≢ b → more ≡ now ++ Attr host b.0 (Some b.1) ∷ []
      → IsWritingAt host olds news (i + 1) (j + 1) start more
  written_at a b within fits item other e differ is =
      both_passed b fits other within more
      (is_written host olds (take j news) (drop (i + 1) olds) (drop (j + 1) news) a b start now more (both_at a b within fits item other)
      (order_met a b within fits item other e) differ is)

  pub equal_at : (a b : Name × List ℕ) → i < length olds → j < length news → a ≡ get_or olds i a → b ≡ get_or news j b → a ≡ b
      → IsWritingAt host olds news (i + 1) (j + 1) start now
  equal_at a b within fits item other e =
      both_passed b fits other within now
      (is_equal host olds (take j news) (drop (i + 1) olds) (drop (j + 1) news) a b start now (both_at a b within fits item other) e)
