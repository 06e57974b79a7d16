-- Places in texts, by the characters before them and after them.
use Rattle.std.proofs.Common.{◌≡◌, ◌∙◌, ℕ, ◌+◌, ◌-◌, ◌<◌, ◌≤◌, Bool, true, false, cond, leb, List, [], ◌∷◌, ◌++◌, length, refl, ap, arith}
use Rattle.std.proofs.lemmas.Bool.Decides.{nat_tests, eqb_tells}
use Rattle.lx_node.specs.Units.{units_of, units}
use Rattle.lx_node.proofs.CodeUnits.{units_of-some, units-append, units-many, units_of-two}
use Rattle.lx_text.specs.Texts.{text_length, front_of, rest_of, within, is_offset}

pub length-none : text_length [] ≡ 0
unfolding text_length units
length-none = refl

pub length-append : (front back : List ℕ) → text_length (front ++ back) ≡ text_length front + text_length back
unfolding text_length
length-append front back = units-append front back

pub length-some : (c : ℕ) (text : List ℕ) → 0 < text_length (c ∷ text)
unfolding text_length units
length-some c text = omega (arith, units_of-some c)

-- ---- the two parts

parts_by : (c : ℕ) (text front rest : List ℕ) → front ++ rest ≡ text → (b : Bool) → cond b (c ∷ front) [] ++ cond b rest (c ∷ text) ≡ c ∷ text
parts_by c text front rest is true = ap (λ cs. c ∷ cs) is
parts_by c text front rest is false = refl

pub parts : (o : ℕ) (text : List ℕ) → front_of o text ++ rest_of o text ≡ text
unfolding front_of rest_of
parts o [] = refl
parts o (c ∷ text) = parts_by c text (front_of (o - units_of c) text) (rest_of (o - units_of c) text) (parts (o - units_of c) text) (leb (units_of c) o)

front_by : (c o : ℕ) (front : List ℕ) → units front ≤ o - units_of c → (b : Bool) → leb (units_of c) o ≡ b → units (cond b (c ∷ front) []) ≤ o
unfolding units
front_by c o front few true is = let fits : units_of c ≤ o = grind (arith, nat_tests, is) in omega (arith, fits, few)
front_by c o front few false is = omega arith

pub front-length : (o : ℕ) (text : List ℕ) → text_length (front_of o text) ≤ o
unfolding text_length units front_of
front-length o [] = omega arith
front-length o (c ∷ text) = front_by c o (front_of (o - units_of c) text) (front-length (o - units_of c) text) (leb (units_of c) o) refl

-- at the start there is nothing before, and everything after
pub front-start : (text : List ℕ) → front_of 0 text ≡ []
unfolding front_of
front-start [] = refl
front-start (c ∷ text) =
    let no : leb (units_of c) 0 ≡ false = grind (arith, nat_tests, units_of-some c) in
    ap (λ b. cond b (c ∷ front_of (0 - units_of c) text) []) no

pub rest-start : (text : List ℕ) → rest_of 0 text ≡ text
unfolding rest_of
rest-start [] = refl
rest-start (c ∷ text) =
    let no : leb (units_of c) 0 ≡ false = grind (arith, nat_tests, units_of-some c) in
    ap (λ b. cond b (rest_of (0 - units_of c) text) (c ∷ text)) no

-- after another text
pub front-behind : (o : ℕ) (front back : List ℕ) → front_of (text_length front + o) (front ++ back) ≡ front ++ front_of o back
unfolding text_length units front_of
front-behind o [] back = ap (λ n. front_of n back) (omega arith)
front-behind o (c ∷ front) back =
    let fits : leb (units_of c) (units_of c + units front + o) ≡ true = grind (arith, nat_tests) in
    let left : units_of c + units front + o - units_of c ≡ units front + o = omega arith in
    ap (λ b. cond b (c ∷ front_of (units_of c + units front + o - units_of c) (front ++ back)) []) fits
    ∙ ap (λ n. c ∷ front_of n (front ++ back)) left ∙ ap (λ cs. c ∷ cs) (front-behind o front back)

pub rest-behind : (o : ℕ) (front back : List ℕ) → rest_of (text_length front + o) (front ++ back) ≡ rest_of o back
unfolding text_length units rest_of
rest-behind o [] back = ap (λ n. rest_of n back) (omega arith)
rest-behind o (c ∷ front) back =
    let fits : leb (units_of c) (units_of c + units front + o) ≡ true = grind (arith, nat_tests) in
    let left : units_of c + units front + o - units_of c ≡ units front + o = omega arith in
    ap (λ b. cond b (rest_of (units_of c + units front + o - units_of c) (front ++ back)) (c ∷ (front ++ back))) fits
    ∙ ap (λ n. rest_of n (front ++ back)) left ∙ rest-behind o front back

-- from the length of a text on there is nothing after
pub rest-end : (o : ℕ) (text : List ℕ) → text_length text ≤ o → rest_of o text ≡ []
unfolding text_length units rest_of
rest-end o [] past = refl
rest-end o (c ∷ text) past =
    let fits : leb (units_of c) o ≡ true = grind (arith, nat_tests, past) in
    ap (λ b. cond b (rest_of (o - units_of c) text) (c ∷ text)) fits ∙ rest-end (o - units_of c) text (omega (arith, past))

-- character by character
pub front-passed : (o c : ℕ) (text : List ℕ) → units_of c ≤ o → front_of o (c ∷ text) ≡ c ∷ front_of (o - units_of c) text
unfolding front_of
front-passed o c text h =
    let fits : leb (units_of c) o ≡ true = grind (arith, nat_tests, h) in
    ap (λ b. cond b (c ∷ front_of (o - units_of c) text) []) fits

pub rest-passed : (o c : ℕ) (text : List ℕ) → units_of c ≤ o → rest_of o (c ∷ text) ≡ rest_of (o - units_of c) text
unfolding rest_of
rest-passed o c text h =
    let fits : leb (units_of c) o ≡ true = grind (arith, nat_tests, h) in
    ap (λ b. cond b (rest_of (o - units_of c) text) (c ∷ text)) fits

pub front-stopped : (o c : ℕ) (text : List ℕ) → o < units_of c → front_of o (c ∷ text) ≡ []
unfolding front_of
front-stopped o c text h =
    let no : leb (units_of c) o ≡ false = grind (arith, nat_tests, h) in
    ap (λ b. cond b (c ∷ front_of (o - units_of c) text) []) no

pub rest-stopped : (o c : ℕ) (text : List ℕ) → o < units_of c → rest_of o (c ∷ text) ≡ c ∷ text
unfolding rest_of
rest-stopped o c text h =
    let no : leb (units_of c) o ≡ false = grind (arith, nat_tests, h) in
    ap (λ b. cond b (rest_of (o - units_of c) text) (c ∷ text)) no

pub front-none : (o : ℕ) → front_of o [] ≡ []
unfolding front_of
front-none o = refl

pub rest-none : (o : ℕ) → rest_of o [] ≡ []
unfolding rest_of
rest-none o = refl

pub length-one : (c : ℕ) → text_length (c ∷ []) ≡ units_of c
unfolding text_length units
length-one c = omega arith

-- no place inside a pair
pub pair-front : (c : ℕ) (text : List ℕ) → 65536 ≤ c → front_of 1 (c ∷ text) ≡ []
pair-front c text h =
    let two : units_of c ≡ 2 = units_of-two c h in
    front-stopped 1 c text (omega (arith, two))

-- ---- places

pub offset_by : (o : ℕ) (text : List ℕ) → text_length (front_of o text) ≡ o → is_offset o text ≡ true
unfolding is_offset within
offset_by o text e = grind (arith, e, eqb_tells (text_length (front_of o text)) o)

pub offset_is : (o : ℕ) (text : List ℕ) → is_offset o text ≡ true → text_length (front_of o text) ≡ o
unfolding is_offset within
offset_is o text e = grind (arith, e, eqb_tells (text_length (front_of o text)) o)

pub within_is : (o : ℕ) (text : List ℕ) → within text o ≡ text_length (front_of o text)
unfolding within
within_is o text = refl

-- where no character has two code units, every number up to the length is a place
plain_by : (c o : ℕ) (front : List ℕ) → units_of c ≡ 1 → (b : Bool) → leb (units_of c) o ≡ b → units front ≡ o - 1 → units (cond b (c ∷ front) []) ≡ o
unfolding units
plain_by c o front one true is e = let fits : units_of c ≤ o = grind (arith, nat_tests, is) in omega (arith, one, fits, e)
plain_by c o front one false is e = let short : o < units_of c = grind (arith, nat_tests, is) in omega (arith, one, short)

plain-front : (o : ℕ) (text : List ℕ) → units text ≡ length text → o ≤ units text → units (front_of o text) ≡ o
unfolding units front_of
plain-front o [] plain within = omega (arith, within)
plain-front o (c ∷ text) plain within =
    let one : units_of c ≡ 1 = omega (arith, plain, units-many text, units_of-some c) in
    let left : units text ≡ length text = omega (arith, plain, one) in
    let less : o - units_of c ≡ o - 1 = omega (arith, one) in
    plain_by c o (front_of (o - units_of c) text) one (leb (units_of c) o) refl (plain-front (o - units_of c) text left (omega (arith, within, one)) ∙ less)

pub plain-offset : (o : ℕ) (text : List ℕ) → text_length text ≡ length text → o ≤ text_length text → is_offset o text ≡ true
unfolding text_length
plain-offset o text plain within = offset_by o text (plain-front o text plain within)
