use Rattle.std.proofs.Common.{◌≡◌, map, ap, sym, subst, ◌∙◌, ◌⊎◌, inl, inr, ◌≤◌, ◌<◌, length}
use Rattle.vliw_asm.specs.Names.{with_name, number_in}
use Rattle.vliw_asm.proofs.Joined.{joined, number_is, refused_beyond, none_refused, few_joined, short_joined}
use Rattle.vliw_asm.proofs.names.Names.refer.Goals as goal
use Rattle.vliw_asm.proofs.names.Names.refer.Goals.{then-number-ge-NAMES_LIMIT-via-then-number-ge-NAMES_LIMIT, then-number-ge-NAMES_LIMIT-via-else-number-ge-NAMES_LIMIT+then-name-gt-NAME_LIMIT}

pub returns-then-number-ge-NAMES_LIMIT : goal.returns-then-number-ge-NAMES_LIMIT
returns-then-number-ge-NAMES_LIMIT c = λ known defined are.
    let name = c.args.name.now in
    let number = c.in_ok-number.ensures.index ∙ number_is c.args.self.now.known.keys c.args.name ∙ ap (λ k. number_in (with_name k name) name) are.listed in
    refused_beyond name known are.few are.short
    (elim c.then-number-ge-NAMES_LIMIT.branch [
      | then-number-ge-NAMES_LIMIT-via-then-number-ge-NAMES_LIMIT w ↦ inl (subst (λ n. 262144 ≤ n) number w.if-number-ge-NAMES_LIMIT.true)
      | then-number-ge-NAMES_LIMIT-via-else-number-ge-NAMES_LIMIT+then-name-gt-NAME_LIMIT w ↦ inr w.if-name-gt-NAME_LIMIT.true
    ])

pub returns : goal.returns
returns c = λ known defined are.
    let name = c.args.name.now in
    let number = c.in_ok-number.ensures.index ∙ number_is c.args.self.now.known.keys c.args.name ∙ ap (λ k. number_in (with_name k name) name) are.listed in
    let low : number_in (with_name known name) name < 262144 = subst (λ n. n < 262144) number c.if-number-ge-NAMES_LIMIT.false in
    let small = c.if-name-gt-NAME_LIMIT.false in (
      none_refused name known are.few are.short low small,
      record {
        numbered = number;
        names = record {
          listed = ap (map (λ name. name.now)) c.in_ok-number.ensures.keys ∙ joined c.args.self.now.known.keys c.args.name ∙ ap (λ k. with_name k name) are.listed;
          marked = are.marked;
          few = few_joined name known are.few are.short low;
          short = short_joined name known are.few are.short small;
        };
      },
    )
