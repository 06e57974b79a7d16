-- Commands by the upper half of a number, and their words.
use Rattle.std.proofs.Common.{◌≡◌, ◌≢◌, ◌∙◌, ℕ, zero, suc, ◌<◌, ◌/◌, ◌%◌, ◌&&◌, Bool, true, List, [], ◌∷◌, refl, sym, ap, arith, codes, nat_lt, chars}
use Rattle.std.specs.Prelude.{Result, Ok, Err, IfOk}
use Rattle.std.specs.Str.{IsAscii}
use Rattle.std.proofs.lemmas.Bool.{ne_eqb}
use Rattle.std.proofs.lemmas.Bool.Decides.{nat_tests}
use Rattle.std.proofs.lemmas.Str.{chars-IsAscii}
use Rattle.lx_step.specs.declared.command.Command.{Command}
use Rattle.lx_step.specs.declared.command.Payload.{Payload}
use Rattle.lx_step.specs.declared.command.Payload.TheVariants.{Nothing, Text}
use Rattle.lx_generator.specs.Sessions.{command_by, named_command, letter}

-- ---- words

abbrev pub are_ascii : List ℕ → Bool
are_ascii [] = true
are_ascii (byte ∷ bytes) = nat_lt byte 128 && are_ascii bytes

below_128 : (bytes : List ℕ) → are_ascii bytes ≡ true → IsAscii bytes
below_128 [] ascii place = omega arith
below_128 (byte ∷ bytes) ascii zero = grind (arith, nat_tests, ascii)
below_128 (byte ∷ bytes) ascii (suc place) = below_128 bytes (grind (arith, ascii)) place

pub as_bytes : (bytes : List ℕ) → are_ascii bytes ≡ true → chars bytes ≡ bytes
as_bytes bytes ascii = chars-IsAscii bytes (below_128 bytes ascii)

pub spelled : (bytes : List ℕ) (n : ℕ) → n < 26 → bytes ≡ letter n → chars bytes ≡ letter n
spelled bytes n low is = ap chars is ∙ as_bytes (letter n) (grind (arith, nat_tests))

-- ---- commands

pub paragraph : (half : ℕ) → half % 8 ≡ 0 → command_by half ≡ named_command (codes "insert-paragraph") Nothing
paragraph half is = rw is refl

pub bold : (half : ℕ) → half % 8 ≡ 1 → command_by half ≡ named_command (codes "format-text") (Text (codes "bold"))
bold half is = rw is refl

pub deleted : (half : ℕ) → half % 8 ≡ 2 → command_by half ≡ named_command (codes "delete-character") (Text (codes "back"))
deleted half is = rw is refl

pub undone : (half : ℕ) → half % 8 ≡ 3 → command_by half ≡ named_command (codes "undo") Nothing
undone half is = rw is refl

pub typed : (half : ℕ) → half % 8 ≢ 0 → half % 8 ≢ 1 → half % 8 ≢ 2 → half % 8 ≢ 3
    → command_by half ≡ named_command (codes "insert-text") (Text (letter ((half / 8) % 26)))
typed half of_0 of_1 of_2 of_3 = rw (ne_eqb (half % 8) 0 of_0, ne_eqb (half % 8) 1 of_1, ne_eqb (half % 8) 2 of_2, ne_eqb (half % 8) 3 of_3) refl

-- a command that was made has its words as characters
pub as_told : {E : Type 0} (r : Result Command E) (name : List ℕ) (sent : Payload) (half : ℕ) → are_ascii name ≡ true
    → command_by half ≡ named_command name sent → IfOk r (λ c. c ≡ named_command (chars name) sent) → IfOk r (λ c. c ≡ command_by half)
as_told (Ok command) name sent half ascii is made = made ∙ ap (λ (n : List ℕ). named_command n sent) (as_bytes name ascii) ∙ sym is
as_told (Err e) name sent half ascii is made = tt

-- the same of one that is sent a text
pub as_sent : {E : Type 0} (r : Result Command E) (name sent text : List ℕ) (half : ℕ) → are_ascii name ≡ true → sent ≡ text
    → command_by half ≡ named_command name (Text text) → IfOk r (λ c. c ≡ named_command (chars name) (Text sent)) → IfOk r (λ c. c ≡ command_by half)
as_sent r name sent text half ascii same is made =
    as_told r name (Text sent) half ascii (is ∙ ap (λ (t : List ℕ). named_command name (Text t)) (sym same)) made
