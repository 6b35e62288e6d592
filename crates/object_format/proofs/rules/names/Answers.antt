use Rattle.std.proofs.Common.{◌≡◌, ◌+◌, ◌<◌, ◌≤◌, false, true, not, ◌&&◌, length, drop, sym, ap, ◌∙◌, subst}
use Rattle.std.specs.Prelude.{bytes_eq}
use Rattle.std.specs.List.{list_any}
use Rattle.machine_desc.specs.Numbers.{is_between}
use Rattle.object_format.specs.Layout.{name_count, names, names_offset}
use Rattle.object_format.specs.Rules.{is_new_name}
use Rattle.object_format.specs.Seen.{Grown}
use Rattle.object_format.proofs.NamesSeen.{So_far, name_there, begun, whole, faulty, passed, ended, fresh_name, long_there}
use Rattle.object_format.proofs.rules.names.Goals as goal

pub loop-k-init : goal.loop-k-init
loop-k-init c =
    subst (λ n. So_far c.args.bytes.now (name_count c.args.bytes.now) 0 n c.in_ok-seen.seen) (sym c.names_offset-end.ensures.offset)
    (begun c.args.bytes.now (name_count c.args.bytes.now) c.in_ok-seen.seen (λ q. ap (list_any (λ k. bytes_eq q.now k.now)) c.in_ok-seen.ensures.empty))

pub name_at-name-requires : goal.name_at-name-requires
name_at-name-requires c =
    let bytes = c.args.bytes.now in
    let e = c.size-count.ensures.value in
    whole bytes (name_count bytes) c.loop-k._k c.loop-k.end c.loop-k.seen (subst (λ n. c.loop-k._k < n) e c.loop-k-test.true)
    (long_there bytes c.requires.there c.requires.walked) c.loop-k.invariant

pub returns-then-not-is_short : goal.returns-then-not-is_short
returns-then-not-is_short c =
    let bytes = c.args.bytes.now in
    let before = names c.loop-k._k (drop (names_offset bytes) bytes) in
    faulty bytes (name_count bytes) c.loop-k._k c.loop-k.end c.loop-k.seen (subst (λ n. c.loop-k._k < n) c.size-count.ensures.value c.loop-k-test.true) c.loop-k.invariant
    (ap (λ n. is_new_name before n) (sym c.name_at-name.ensures) ∙ ap (λ b. b && not (list_any (bytes_eq c.name_at-name.result.now) before)) (sym c.is_short.ensures ∙ c.if-not-is_short.true))

pub returns-then-not-branch : goal.returns-then-not-branch
returns-then-not-branch c =
    let bytes = c.args.bytes.now in
    let before = names c.loop-k._k (drop (names_offset bytes) bytes) in
    faulty bytes (name_count bytes) c.loop-k._k c.loop-k.end c.loop-k.seen (subst (λ n. c.loop-k._k < n) c.size-count.ensures.value c.loop-k-test.true) c.loop-k.invariant
    (ap (λ n. is_new_name before n) (sym c.name_at-name.ensures)
    ∙ fresh_name c.loop-k.seen c.name_at-name.result before (is_between 1 32 (length c.name_at-name.result.now)) c.in_ok-is_added.field-0 false
    c.loop-k.invariant.are_seen (sym c.is_short.ensures ∙ c.if-not-is_short.false) c.in_ok-is_added.ensures.added c.if-not-branch.true)

pub loop-k-preserved : goal.loop-k-preserved
loop-k-preserved c =
    let bytes = c.args.bytes.now in
    let before = names c.loop-k._k (drop (names_offset bytes) bytes) in
    let same : c.name_at-name.result.now ≡ name_there bytes c.loop-k.end = c.name_at-name.ensures in
    let fresh : is_new_name before (name_there bytes c.loop-k.end) ≡ true =
    ap (is_new_name before) (sym same)
    ∙ fresh_name c.loop-k.seen c.name_at-name.result before (is_between 1 32 (length c.name_at-name.result.now)) c.in_ok-is_added.field-0 true
    c.loop-k.invariant.are_seen (sym c.is_short.ensures ∙ c.if-not-is_short.false) c.in_ok-is_added.ensures.added c.if-not-branch.false in
    subst (λ n. So_far bytes (name_count bytes) (c.loop-k._k + 1) (c.loop-k.end + (1 + length n)) c.is_added.new.seen) (sym same)
    (passed bytes (name_count bytes) c.loop-k._k c.loop-k.end c.loop-k.seen c.is_added.new.seen
    (subst (λ n. c.loop-k._k < n) c.size-count.ensures.value c.loop-k-test.true) (long_there bytes c.requires.there c.requires.walked) c.loop-k.invariant fresh
    (subst (Grown c.loop-k.seen c.is_added.new.seen) same c.in_ok-is_added.ensures.after))

pub returns : goal.returns
returns c =
    let bytes = c.args.bytes.now in
    ended bytes (name_count bytes) c.loop-k._k c.loop-k.end c.loop-k.seen (subst (λ n. n ≤ c.loop-k._k) c.size-count.ensures.value c.loop-k-test.false) c.loop-k.invariant
