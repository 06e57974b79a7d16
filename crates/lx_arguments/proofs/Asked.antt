-- From what clap says of a parse to what the arguments ask for.
use Rattle.std.proofs.Common.{◌≡◌, ◌≢◌, ◌∙◌, ap, ap₂, ℕ, ◌≤◌, ◌<◌, ◌^◌, ◌&&◌, Bool, true, false, List, [], ◌∷◌, Option, Some, None, refl, sym, subst, inl, inr, arith, codes}
use Rattle.std.specs.Prelude.{Result, Ok, Err, IfOk, IfErr, IfSome, unwrap_or, is_some}
use Rattle.std.specs.Str.{bytes_eq}
use Rattle.std.specs.Str.Parse.{ParsesBool, ParsesUnsigned}
use Rattle.std.proofs.lemmas.Bool.{ne_eqb}
use Rattle.std.proofs.lemmas.Slice.Eq.{bytes_eq-Decides}
use Rattle.clap.proofs.CallerReads.{signed_reads}
use Rattle.clap.proofs.WalkLemmas.{one_text-rows}
use Rattle.clap.specs.Faults.{fault_of, is_simple_and_free}
use Rattle.clap.specs.Kinds.{HasKind, IsAmong, Kinds}
use Rattle.clap.specs.Matches.{ReadsOne, found_of, one_text}
use Rattle.clap.specs.Simple.{App, HasMatchesOf, is_simple, matches_of}
use Rattle.clap.specs.Values.{kind_of}
use Rattle.clap.specs.Walk.{Text, is_empty, one_of}
use Rattle.clap.specs.declared.error.Error.{Error}
use Rattle.clap.specs.declared.error.kind.ErrorKind.{ErrorKind}
use Rattle.clap.specs.declared.error.kind.ErrorKind.TheVariants as kind
use Rattle.clap.specs.declared.parser.matches.ArgMatches.{ArgMatches}
use Rattle.clap.specs.declared.parser.matches.Found.{Found}
use Rattle.lx_arguments.specs.Arguments.{IsRefusedAs, MayHaveNumber, are_taken, asked_for, delay_asked, delay_rule, generate_rule, asks_hub, hub_rule, lexical_app, mode_found, mode_asked, number_if_said, number_asked, number_said, asks_outline, outline_rule, says_true, seed_rule, asks_view, view_rule}
use Rattle.lx_arguments.specs.declared.options.Mode.{Mode}
use Rattle.lx_arguments.specs.declared.options.Mode.TheVariants as mode
use Rattle.lx_arguments.specs.declared.options.Options.{Options}
use Rattle.lx_arguments.specs.declared.options.Refused.{Refused}
use Rattle.lx_arguments.specs.declared.options.Refused.TheVariants as refused

-- ---- the texts

pub number_read : {E : Type 0} (G : Text → Result ℕ E → Type 0) → ((u : Text) (x : Result ℕ E) → G u x → ParsesUnsigned 32 10 u x)
    → (t : Option Text) (u : Text) (r : Option ℕ) (n : ℕ) → t ≡ Some u → ReadsOne G u r → r ≡ Some n → n ≡ number_said t
unfolding number_said
number_read G only t u r n is read some =
    let gives : G u (Ok n) = subst (ReadsOne G u) some read in
    rw is (only u (Ok n) gives).1

-- a number that may be missing is the one that its text says, and lies in the bounds of its parser
pub number_if_read : {E : Type 0} (G : Text → Result ℕ E → Type 0) → ((u : Text) (x : Result ℕ E) → G u x → ParsesUnsigned 32 10 u x)
    → (f : Found) (name : Text) (least most : ℕ) (r : Option ℕ) → MayHaveNumber name least most f → most < 2 ^ 32
    → (one_text f name ≡ None → r ≡ None) → ((u : Text) → one_text f name ≡ Some u → ReadsOne G u r)
    → (r ≡ number_if_said (one_text f name)) × IfSome r (λ n. (least ≤ n) × (n ≤ most))
unfolding number_if_said number_said
number_if_read {E} G only f name least most r has fits none some = elim has [
  | inl no_text ↦
      let is : r ≡ None = none no_text in
      (rw no_text is, rw is tt)
  | inr number ↦
      let text = number.0 in
      let read = signed_reads E G 32 least most text r (some _ number.1) only fits number.2 in
      let said = number_read G only _ (_) r read.0 number.1 (some _ number.1) read.1 in
      (rw (number.1, read.1) (ap Some (rw number.1 at said)), rw read.1 (read.2, read.3))
]

not_same : (a b : Text) → a ≢ b → bytes_eq a b ≡ false
not_same a b differ = go (bytes_eq a b) refl
  where
    go : (t : Bool) → bytes_eq a b ≡ t → t ≡ false
    go true e = absurd (differ ((bytes_eq-Decides a b).0 e))
    go false e = refl

pub flag_read : (E : Type 0) (t : Option Text) (r : Option Bool) → (t ≡ None → r ≡ None)
    → ((u : Text) → t ≡ Some u → ReadsOne {T = Bool} {E = E} ParsesBool u r) → unwrap_or r false ≡ says_true t
unfolding says_true
flag_read E None r none some = rw (none refl) refl
flag_read E (Some u) (Some true) none some = sym ((bytes_eq-Decides u (codes "true")).1 (some u refl))
flag_read E (Some u) (Some false) none some = rw (some u refl) refl
flag_read E (Some u) None none some = sym (not_same u (codes "true") (some u refl).1.0)

-- ---- the arguments

is_simple_app : is_simple lexical_app ≡ true
unfolding lexical_app view_rule delay_rule hub_rule outline_rule generate_rule seed_rule
is_simple_app = refl

is_free_app : is_simple_and_free lexical_app ≡ true
unfolding lexical_app view_rule delay_rule hub_rule outline_rule generate_rule seed_rule
is_free_app = refl

-- what the matches have under a name is what the arguments have
text_is : (a : App) (words : List Text) (m : ArgMatches) → a ≡ lexical_app → HasMatchesOf a words m → (name : Text)
    → one_text (found_of m) name ≡ one_of name (matches_of lexical_app words)
text_is a words m is has name =
    let rows = (subst (λ (b : App). HasMatchesOf b words m) is has is_simple_app).0 in
    one_text-rows (found_of m) name ∙ ap (one_of name) rows

-- the mode of the matches is that of the arguments
mode_is : (a : App) (words : List Text) (m : ArgMatches) → a ≡ lexical_app → HasMatchesOf a words m → mode_found (found_of m) ≡ mode_asked words
unfolding mode_asked asks_view asks_hub asks_outline number_asked
mode_is a words m is has =
    let text = text_is a words m is has in
    rw (text (codes "view"), text (codes "hub"), text (codes "outline"), text (codes "generate"), text (codes "seed")) refl

taken : (a : App) (words : List Text) (mode : Mode) → a ≡ lexical_app → (is_simple_and_free a ≡ true → fault_of a words ≡ [])
    → mode_asked words ≡ Some mode → are_taken words ≡ true
unfolding are_taken
taken a words mode is ok one =
    let none : fault_of lexical_app words ≡ [] = subst (λ (b : App). is_simple_and_free b ≡ true → fault_of b words ≡ []) is ok is_free_app in
    ap₂ (λ x y. x && y) (ap is_empty none) (ap is_some one)

-- arguments that ask for no mode aren't taken
no_mode : (words : List Text) → mode_asked words ≡ None → are_taken words ≡ false
unfolding are_taken
no_mode words none = grind (arith, ap is_some none)

among_some : (k : ErrorKind) (kinds : Kinds) → IsAmong k kinds → is_empty kinds ≡ false
among_some k [] h = elim h [ ]
among_some k (x ∷ xs) h = ne_eqb _ _ (λ z. absurd (omega arith))

pub not_taken : (a : App) (words : List Text) (e : Error) → a ≡ lexical_app → (is_simple_and_free a ≡ true → HasKind (fault_of a words) e)
    → kind_of e ≢ kind.OutOfMemory → are_taken words ≡ false
unfolding are_taken
not_taken a words e is err other =
    let has : HasKind (fault_of lexical_app words) e = subst (λ (b : App). is_simple_and_free b ≡ true → HasKind (fault_of b words) e) is err is_free_app in
    let some : is_empty (fault_of lexical_app words) ≡ false = elim has [
      | inl memory ↦ absurd (other memory)
      | inr among ↦ among_some (kind_of e) (fault_of lexical_app words) among
    ] in
    ap (λ b. b && is_some (mode_asked words)) some

pub refusal : (r : Refused) (words : List Text) (k : ErrorKind) → (r ≡ refused.Usage → k ≢ kind.OutOfMemory)
    → (k ≢ kind.OutOfMemory → are_taken words ≡ false) → IsRefusedAs r words
refusal refused.Usage words k other refuses = refuses (other refl)
refusal refused.Memory words k other refuses = tt

same_options : (o p : Options) → o.mode ≡ p.mode → o.view ≡ p.view → o.delay ≡ p.delay → o ≡ p
same_options o p mode view delay =
    ap₂ (λ (v : Bool) (d : ℕ). record { mode = o.mode; view = v; delay = d }) view delay
    ∙ ap (λ (m : Mode). record { mode = m; view = p.view; delay = p.delay }) mode

asked : (a : App) (words : List Text) (m : ArgMatches) (o : Options) → a ≡ lexical_app → HasMatchesOf a words m
    → mode_found (found_of m) ≡ Some o.mode → o.view ≡ says_true (one_text (found_of m) (codes "view"))
    → o.delay ≡ number_said (one_text (found_of m) (codes "delay")) → o ≡ asked_for words
unfolding asks_view delay_asked
asked a words m o is has asks view delay = same_options o (asked_for words)
    (ap (λ (x : Option Mode). unwrap_or x mode.Plain) (sym asks ∙ mode_is a words m is has))
    (view ∙ ap says_true (text_is a words m is has (codes "view")))
    (delay ∙ ap number_said (text_is a words m is has (codes "delay")))

-- ---- what the matches ask for, or that they ask for no mode

pub options_are : (r : Result Options Refused) (a : App) (words : List Text) (m : ArgMatches) → a ≡ lexical_app → HasMatchesOf a words m
    → (is_simple_and_free a ≡ true → fault_of a words ≡ []) → IfOk r (λ o. mode_found (found_of m) ≡ Some o.mode)
    → IfOk r (λ o. o.view ≡ says_true (one_text (found_of m) (codes "view")))
    → IfOk r (λ o. o.delay ≡ number_said (one_text (found_of m) (codes "delay")))
    → IfOk r (λ o. (are_taken words ≡ true) × (o ≡ asked_for words))
options_are (Ok o) a words m is has ok mode view delay =
    (taken a words o.mode is ok (sym (mode_is a words m is has) ∙ mode), asked a words m o is has mode view delay)
options_are (Err e) a words m is has ok mode view delay = tt

pub usage_is : (r : Result Options Refused) (a : App) (words : List Text) (m : ArgMatches) → a ≡ lexical_app → HasMatchesOf a words m
    → IfErr r (λ e. (e ≡ refused.Usage) × (mode_found (found_of m) ≡ None)) → IfErr r (λ e. IsRefusedAs e words)
usage_is (Ok o) a words m is has usage = tt
usage_is (Err e) a words m is has usage =
    subst (λ (x : Refused). IsRefusedAs x words) (sym usage.0) (no_mode words (sym (mode_is a words m is has) ∙ usage.1))
