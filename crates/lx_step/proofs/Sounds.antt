-- Sound steps and sound scripts.
use Rattle.std.proofs.Common.{List, [], ◌∷◌, All}
use Rattle.std.proofs.lemmas.List.Elements.{All-nil, All-cons, All-head, All-tail}
use Rattle.lx_trees.specs.Trees.{nil, tree}
use Rattle.lx_step.specs.declared.step.Step.{Step}
use Rattle.lx_step.specs.declared.step.Step.TheVariants as step
use Rattle.lx_step.specs.Script as script
use Rattle.lx_step.specs.Script.{Head, Script}
use Rattle.lx_step.specs.Sound.{IsSound, IsSoundHead, IsSoundScript}
use Rattle.lx_step.specs.Spelled.{with_first, script_of, step_for, steps_of}

step_sound : (head : Head) (below : Script) → IsSoundHead head → IsSoundScript below → IsSound (step_for head below)
step_sound (script.new kind fields name) below h b = h
step_sound (script.set node patch) below h b = h
step_sound script.later below h b = b
step_sound _ below h b = tt

-- the steps of a sound script are sound
pub steps_sound : (s : Script) → IsSoundScript s → All IsSound (steps_of s)
steps_sound nil h = All-nil IsSound
steps_sound (tree head below rest) h = All-cons IsSound (step_for head below) (steps_of rest) (step_sound head below h.0 h.1) (steps_sound rest h.2)

-- a sound step before a sound script
pub script_with : (s : Step) (rest : Script) → IsSound s → IsSoundScript rest → IsSoundScript (with_first s rest)
script_with (step.New kind fields name) rest h r = (h, tt, r)
script_with (step.Set node patch) rest h r = (h, tt, r)
script_with (step.Later script) rest h r = (tt, h, r)
script_with _ rest h r = (tt, tt, r)

-- the script of sound steps is sound
pub script_sound : (steps : List Step) → All IsSound steps → IsSoundScript (script_of steps)
script_sound [] h = tt
script_sound (s ∷ steps) h = script_with s (script_of steps) (All-head IsSound s steps h) (script_sound steps (All-tail IsSound s steps h))
