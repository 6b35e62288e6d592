use Rattle.std.proofs.Common.{◌≡◌, length, map, sym, subst, ◌∙◌, ◌/◌, arith}
use Rattle.std.specs.Prelude.{string_bytes}
use Rattle.std.proofs.lemmas.List.{length-map}
use Rattle.tinker_words.proofs.Named.{IsCount, words_count, count_named}
use Rattle.tinker_words.proofs.words.contexts_in.Goals as goal

module _ (c : goal.Start) where
  many : length (map string_bytes c.args.words.now) ≡ length c.args.words.now
  many = length-map c.args.words.now string_bytes

  counted : IsCount (length c.args.words.now)
  counted = subst IsCount many (words_count (map string_bytes c.args.words.now) c.requires)

pub returns-clause-count : goal.returns-clause-count
returns-clause-count c =
    sym (count_named (map string_bytes c.args.words.now) (length c.args.words.now / 3) (many c ∙ (counted c).threes))

pub returns-clause-some : goal.returns-clause-some
returns-clause-some c = let n = counted c in let t = n.threes in let s = n.some in omega arith

pub returns-clause-few : goal.returns-clause-few
returns-clause-few c = let n = counted c in let t = n.threes in let f = n.few in omega arith
