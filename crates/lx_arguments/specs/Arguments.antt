-- What the program's arguments ask for, and which it takes, by clap's stated meaning of a simple command.
use Rattle.std.specs.Prelude.{◌≡◌, ◌≤◌, ◌&&◌, ◌⊎◌, ℕ, Bool, pos, true, false, is_some, unwrap_or, List, [], ◌∷◌, Option, None, Some, option_map, codes, ⊤}
use Rattle.std.specs.Option.{option_map_or}
use Rattle.std.specs.Str.{bytes_eq}
use Rattle.std.specs.Str.Parse.{digits_value, without_leading_plus}
use Rattle.clap.specs.Faults.{fault_of}
use Rattle.clap.specs.Lexer.{without_minus}
use Rattle.clap.specs.Matches.{one_text}
use Rattle.clap.specs.Simple.{App, matches_of, new_app, new_rule, on_top, with_rule}
use Rattle.clap.specs.Values.{IsSignedIn}
use Rattle.clap.specs.Walk.{Rule, Text, is_empty, one_of}
use Rattle.clap.specs.declared.builder.action.ArgAction.TheVariants.{Set, SetTrue}
use Rattle.clap.specs.declared.builder.value_parser.ValueParser.TheVariants as vp
use Rattle.clap.specs.declared.parser.matches.Found.{Found}
use Rattle.lx_arguments.specs.declared.options.Mode.{Mode}
use Rattle.lx_arguments.specs.declared.options.Mode.TheVariants as mode
use Rattle.lx_arguments.specs.declared.options.Options.{Options}
use Rattle.lx_arguments.specs.declared.options.Refused.{Refused}
use Rattle.lx_arguments.specs.declared.options.Refused.TheVariants as refused

-- a day in milliseconds
abbrev pub most_delay : ℕ
most_delay = 86400000

-- `--view`, which takes no value
unfoldable pub view_rule : Rule
view_rule = record (new_rule (codes "view")) { long = Some (codes "view"); action = Some SetTrue }

-- `--delay MS`, a number up to a day, and 1000 where it is not used
unfoldable pub delay_rule : Rule
delay_rule = record (new_rule (codes "delay")) {
  long = Some (codes "delay");
  action = Some Set;
  parser = Some (vp.Signed (pos 0) (pos most_delay));
  defaults = codes "1000" ∷ [];
}

-- `--hub`, which takes no value
unfoldable pub hub_rule : Rule
hub_rule = record (new_rule (codes "hub")) { long = Some (codes "hub"); action = Some SetTrue }

-- `--outline`, which takes no value
unfoldable pub outline_rule : Rule
outline_rule = record (new_rule (codes "outline")) { long = Some (codes "outline"); action = Some SetTrue }

-- the most lines that a generated session has
abbrev pub most_lines : ℕ
most_lines = 20000

-- `--generate N`, a number of lines
unfoldable pub generate_rule : Rule
generate_rule = record (new_rule (codes "generate")) {
  long = Some (codes "generate");
  action = Some Set;
  parser = Some (vp.Signed (pos 1) (pos most_lines));
}

-- the largest seed, which is the largest number of 32 bits
abbrev pub most_seed : ℕ
most_seed = 4294967295

-- `--seed S`, a number of 32 bits
unfoldable pub seed_rule : Rule
seed_rule = record (new_rule (codes "seed")) {
  long = Some (codes "seed");
  action = Some Set;
  parser = Some (vp.Signed (pos 0) (pos most_seed));
}

-- the program, passed the arguments after its name; it has no flag for help and none for a version
unfoldable pub lexical_app : App
lexical_app =
    with_rule (with_rule (with_rule (with_rule (with_rule (with_rule
    (on_top (λ s. record s { no_binary_name = true; disable_help_flag = true }) (new_app (codes "lexical")))
    view_rule) delay_rule) hub_rule) outline_rule) generate_rule) seed_rule

-- the text that clap reads of the flag is `true`
unfoldable pub says_true : Option Text → Bool
says_true text = option_map_or (λ t. bytes_eq t (codes "true")) text false

-- the number that the text says, by its decimal digits
unfoldable pub number_said : Option Text → ℕ
number_said text = option_map_or (λ t. digits_value 10 (without_leading_plus t)) text 0

-- the number that a text says that may be missing
unfoldable pub number_if_said : Option Text → Option ℕ
number_if_said text = option_map (λ t. digits_value 10 (without_leading_plus t)) text

-- whether the arguments ask for the view, by clap's matches
unfoldable pub asks_view : List Text → Bool
asks_view words = says_true (one_of (codes "view") (matches_of lexical_app words))

-- whether they ask for views that lag behind, by clap's matches
unfoldable pub asks_hub : List Text → Bool
asks_hub words = says_true (one_of (codes "hub") (matches_of lexical_app words))

-- whether they ask for an outline, by clap's matches
unfoldable pub asks_outline : List Text → Bool
asks_outline words = says_true (one_of (codes "outline") (matches_of lexical_app words))

-- the delay that the arguments ask for, by clap's matches
unfoldable pub delay_asked : List Text → ℕ
delay_asked words = number_said (one_of (codes "delay") (matches_of lexical_app words))

-- the number of an option that the arguments may have, by clap's matches
unfoldable pub number_asked : Text → List Text → Option ℕ
number_asked name words = number_if_said (one_of name (matches_of lexical_app words))

-- the mode that is asked for: the two numbers come together and with no flag, and views that lag behind and an outline
-- not together, but either may come with the view
abbrev pub mode_of : Bool → Bool → Bool → Option ℕ → Option ℕ → Option Mode
mode_of view false false None None = Some mode.Plain
mode_of view true false None None = Some mode.Hub
mode_of view false true None None = Some mode.Outline
mode_of false false false (Some lines) (Some seed) = Some (mode.Generate (record { lines = lines; seed = seed }))
mode_of view hub outline lines seed = None

-- a session that is generated has as many lines as it may have
abbrev pub HasLines : Mode → Type 0
HasLines mode.Plain = ⊤
HasLines mode.Hub = ⊤
HasLines mode.Outline = ⊤
HasLines (mode.Generate session) = (1 ≤ session.lines) × (session.lines ≤ most_lines)

-- the mode that the arguments ask for, by clap's matches
unfoldable pub mode_asked : List Text → Option Mode
mode_asked words =
    mode_of (asks_view words) (asks_hub words) (asks_outline words) (number_asked (codes "generate") words) (number_asked (codes "seed") words)

-- clap lists no kind of error at the arguments, and they ask for a mode
unfoldable pub are_taken : List Text → Bool
are_taken words = is_empty (fault_of lexical_app words) && is_some (mode_asked words)

-- what the arguments ask for
abbrev pub asked_for : List Text → Options
asked_for words = record { mode = unwrap_or (mode_asked words) mode.Plain; view = asks_view words; delay = delay_asked words }

-- arguments are refused as usage only where they are not taken
abbrev pub IsRefusedAs : Refused → List Text → Type 0
IsRefusedAs refused.Usage words = are_taken words ≡ false
IsRefusedAs refused.Memory words = ⊤

-- the matches have a number under this name that its parser took
abbrev pub HasNumber : Text → ℕ → ℕ → Found → Type 0
HasNumber name least most f = (text : Text) × (one_text f name ≡ Some (without_minus text))
    × IsSignedIn (pos least) (pos most) text

-- the matches have nothing under this name, or such a number
abbrev pub MayHaveNumber : Text → ℕ → ℕ → Found → Type 0
MayHaveNumber name least most f = (one_text f name ≡ None) ⊎ HasNumber name least most f

-- what the program's matches have of its numbers
pub record HasNumbers (f : Found) : Type 0 where
  pub delay : HasNumber (codes "delay") 0 most_delay f
  pub generate : MayHaveNumber (codes "generate") 1 most_lines f
  pub seed : MayHaveNumber (codes "seed") 0 most_seed f

-- the mode that matches ask for
abbrev pub mode_found : Found → Option Mode
mode_found f = mode_of (says_true (one_text f (codes "view"))) (says_true (one_text f (codes "hub")))
    (says_true (one_text f (codes "outline"))) (number_if_said (one_text f (codes "generate"))) (number_if_said (one_text f (codes "seed")))
