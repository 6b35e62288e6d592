-- How the program's own forms, targets and contexts stand for those of Words.antt.
use Rattle.std.specs.Prelude.{option_map}
use Rattle.tinker_words.specs.declared.words.Form.{Form}
use Rattle.tinker_words.specs.declared.words.Form.TheVariants as parsed
use Rattle.tinker_words.specs.declared.words.Target as parsed_target
use Rattle.tinker_words.specs.declared.words.NamedContext as parsed_context
use Rattle.tinker_words.specs.Words.{Command, Help, Version, Check, Meaning, Run, Resched, Gen, Target, Own, T1, T2, T3, File, NamedContext}

-- the generation
abbrev pub aimed_at : parsed_target.Target → Target
aimed_at parsed_target.TheVariants.Own = Own
aimed_at parsed_target.TheVariants.T1 = T1
aimed_at parsed_target.TheVariants.T2 = T2
aimed_at parsed_target.TheVariants.T3 = T3
aimed_at (parsed_target.TheVariants.File name) = File name.now

-- the context
abbrev pub named : parsed_context.NamedContext → NamedContext
named c = record { image = c.image.now; target = aimed_at c.target; input = option_map (λ name. name.now) c.input }

-- the command that a form stands for
abbrev pub asked_for : Form → Command
asked_for parsed.Help = Help
asked_for parsed.Version = Version
asked_for (parsed.Check image) = Check image.now
asked_for (parsed.Meaning s) = Meaning s
asked_for (parsed.Run s contexts) = Run s contexts
asked_for (parsed.Resched image target out) = Resched image.now (aimed_at target) out.now
asked_for (parsed.Gen workload out) = Gen workload out.now
