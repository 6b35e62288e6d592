-- The blocks of a generated image: their words issue one by one, and the last block halts.
use Rattle.std.proofs.Common.{◌≡◌, ℕ, suc, ◌+◌, ◌-◌, ◌*◌, ◌%◌, ◌<◌, ◌≤◌, Bool, true, false, List, [], ◌∷◌, length, get_or, refl, ap, ◌∙◌, arith}
use Rattle.std.specs.Prelude.{All}
use Rattle.std.specs.List.{list_any, range_with_len}
use Rattle.std.proofs.lemmas.List.{length-append, get_or_append_left}
use Rattle.std.proofs.lemmas.List.Elements.{All-append, All-nil, All-cons, All-map}
use Rattle.std.proofs.lemmas.List.FromFn.{length-map-range_with_len}
use Rattle.std.proofs.Math.Seq.{get_or-append_seam}
use Rattle.serial_order.proofs.Members.{among_some, among_range}
use Rattle.operation.specs.declared.Guarded.{Guarded}
use Rattle.operation.specs.declared.Op.TheVariants as op
use Rattle.operation.specs.Places.{is_branch}
use Rattle.list_encoding.specs.Reading.{halt}
use Rattle.list_encoding.proofs.GuardedIn.{operation_of_reading}
use Rattle.timed_meaning.specs.Sound.{always_leaves}
use Rattle.latency_deps.specs.Timing.{ops_of}
use Rattle.workload.specs.Draws.{after}
use Rattle.workload.specs.Operations.{drawn_operation, drawn_guard}
use Rattle.workload.specs.Words.{serial_word, drawn_word, drawn_words}
use Rattle.workload.specs.Generated.{ending, block_words}
use Rattle.workload.proofs.Choices.{IsCalm, calm_drawn, drawn_in, calm_outb, halt_fits}
use Rattle.workload.proofs.Readings.{serial, reads, is_word}
use Rattle.workload.proofs.SerialTimes.{IsSerial, AreSerial}
use Rattle.workload.proofs.Standing.{IsBlock}

-- the word of an operation that issues alone, and isn't a branch
pub record IsInner (word : ℕ) : Type 0 where
  pub alone : IsSerial word
  pub stays : is_branch alone.guarded.op ≡ false

inner : (g : Guarded) → IsCalm g.op → IsInner (serial_word g.guard g.op)
inner g c = record {
  alone = record { guarded = g; read = reads g c.fit; small = is_word g c.fit; target = c.target; odds = c.odds };
  stays = c.stays;
}

inner_drawn : (x : ℕ) → IsInner (drawn_word x)
inner_drawn x = inner (record { guard = drawn_guard x; op = drawn_operation x; in_range = drawn_in x }) (calm_drawn x)

inner_outb : (r : ℕ) → r ≤ 15 → IsInner (serial_word 0 (op.Outb r))
inner_outb r h = let c = calm_outb r h in inner (record { guard = 0; op = op.Outb r; in_range = c.in_range }) c

halt_alone : IsSerial (serial_word 0 (op.Halt 0))
halt_alone = record { guarded = halt; read = reads halt halt_fits; small = is_word halt halt_fits; target = λ rows. refl; odds = refl }

-- ---- the words of a block

-- all but the `halt`
abbrev front : (i ops x : ℕ) → List ℕ
front i ops x = serial_word 0 (op.Outb (1 + i % 15)) ∷ drawn_words (ops - 1) x

length_front : (i ops x : ℕ) → 1 ≤ ops → length (front i ops x) ≡ ops
length_front i ops x some =
    let n = length-map-range_with_len (λ k. drawn_word (after (5 * k) x)) 0 (ops - 1) in omega arith

inner_front : (i ops x : ℕ) → All IsInner (front i ops x)
inner_front i ops x =
    All-cons IsInner (serial_word 0 (op.Outb (1 + i % 15))) (drawn_words (ops - 1) x) (inner_outb (1 + i % 15) (omega arith))
    (All-map IsInner (λ k. drawn_word (after (5 * k) x)) (range_with_len 0 (ops - 1))
    (λ k d lt. inner_drawn (after (5 * get_or (range_with_len 0 (ops - 1)) k d) x)))

alone_ending : (last : Bool) → All IsSerial (ending last)
alone_ending true = All-cons IsSerial (serial_word 0 (op.Halt 0)) [] halt_alone (All-nil IsSerial)
alone_ending false = All-nil IsSerial

pub short_ending : (last : Bool) → length (ending last) ≤ 1
short_ending true = omega arith
short_ending false = omega arith

pub block_length : (i ops : ℕ) (last : Bool) (x : ℕ) → 1 ≤ ops → length (block_words i ops last x) ≡ ops + length (ending last)
block_length i ops last x some =
    length-append (front i ops x) (ending last) ∙ ap (λ n. n + length (ending last)) (length_front i ops x some)

module _ (i ops : ℕ) (last : Bool) (x : ℕ) (some : 1 ≤ ops) (few : ops ≤ 500) where
  abbrev words : List ℕ
  words = block_words i ops last x

  alone : All IsSerial words
  alone = All-append IsSerial (front i ops x) (ending last) (λ k d lt. (inner_front i ops x k d lt).alone) (alone_ending last)

  stays : (k : ℕ) → suc k < length words → is_branch (ops_of words k).op ≡ false
  stays k lt =
      let s = short_ending last in
      let n = length_front i ops x some in
      let l = block_length i ops last x some in
      let here : k < length (front i ops x) = omega arith in
      let w = inner_front i ops x k 0 here in
      let same : get_or words k 0 ≡ get_or (front i ops x) k 0 = get_or_append_left (front i ops x) (ending last) 0 k here in
      ap (λ v. is_branch (ops_of (v ∷ []) 0).op) same
      ∙ ap (λ (o : Guarded). is_branch o.op) (operation_of_reading (get_or (front i ops x) k 0) (serial w.alone.guarded) w.alone.read)
      ∙ w.stays

  pub serial_block : AreSerial words
  serial_block =
      let s = short_ending last in
      let l = block_length i ops last x some in
      record { some = omega arith; few = omega arith; each = λ k lt. alone k 0 lt; stays = stays }

  pub is_block : IsBlock words
  is_block =
      let s = short_ending last in
      let l = block_length i ops last x some in
      record { some = omega arith; few = omega arith; small = λ k d lt. (alone k d lt).small }

-- the last block always leaves
pub leaves : (i ops x : ℕ) → 1 ≤ ops →
    list_any (λ k. always_leaves (ops_of (block_words i ops true x) k)) (range_with_len 0 (length (block_words i ops true x))) ≡ true
leaves i ops x some =
    let words = block_words i ops true x in
    let w = serial_word 0 (op.Halt 0) in
    let at = length (front i ops x) in
    let l = length-append (front i ops x) (w ∷ []) in
    let here : get_or words at 0 ≡ w = get_or-append_seam (front i ops x) w [] 0 in
    let halts : ops_of words at ≡ halt =
    ap (λ v. ops_of (v ∷ []) 0) here ∙ operation_of_reading w (serial halt) (reads halt halt_fits) in
    among_some (λ k. always_leaves (ops_of words k)) (range_with_len 0 (length words)) at
    (among_range (length words) at (omega arith)) (ap always_leaves halts)
