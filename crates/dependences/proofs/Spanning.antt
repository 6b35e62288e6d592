-- The links span which operation comes before which.
use Rattle.std.proofs.Common.{◌≢◌, ℕ, ◌<◌, ◌≤◌, List, sym, arith}
use Rattle.std.specs.Prelude.{ℤ, pos}
use Rattle.operation.specs.declared.LatKind.{LatKind}
use Rattle.timed_meaning.specs.declared.TimedOp.{TimedOp}
use Rattle.block_links.specs.declared.links.Links.{Links}
use Rattle.block_links.specs.Links.{is_linked}
use Rattle.block_links.specs.Cover.{Chain}
use Rattle.dependences.specs.declared.access.Access.{Access}
use Rattle.dependences.specs.Linked.{latency_among}
use Rattle.dependences.specs.Laws.{AreSound, LinksSpan}
use Rattle.dependences.specs.Accesses.{read_of, write_of}
use Rattle.dependences.proofs.Cases.{IsBefore, Fed, Feeds, Both, Listed, before_of, of_before}
use Rattle.dependences.proofs.Sound.{linked_says}
use Rattle.dependences.proofs.Reach.{Reach, along, way_to, chain_of}
use Rattle.dependences.proofs.Meets.{by_time, turned, fed, both, in_order}

module _ (ops : ℕ → TimedOp) (n : ℕ) (list : List Access) (l : Links) (s : AreSound ops n list l) where
  -- to reach another operation there is a chain
  pub chain_to : (latency : LatKind → ℕ) (i j : ℕ) (d : ℤ) → i ≢ j → Reach (along ops n list l s.linked latency) i j d → Chain (is_linked l) i j
  chain_to latency i j d ne r =
      let w = way_to (along ops n list l s.linked latency) i j d ne r in
      chain_of (latency_among latency ops) l i j w.0 w.1

  -- a latency of 1 for each
  one : LatKind → ℕ
  one k = 1

  at_least_one : (k : LatKind) → 1 ≤ one k
  unfolding one
  at_least_one k = omega arith

  reached : (i j : ℕ) → i < n → j < n → i ≢ j → IsBefore i j (ops i) (ops j) → Chain (is_linked l) i j
  reached i j low high ne (Fed f le) =
      let m = fed ops n list l s one at_least_one i j low high ne f in
      chain_to one i j _ ne (by_time ops n list l s one at_least_one (write_of i (ops i) m.of) (read_of j (ops j) m.of) m.meet (omega arith))
  reached i j low high ne (Feeds f lt) =
      let m = fed ops n list l s one at_least_one j i high low (λ same. ne (sym same)) f in
      let a = read_of i (ops i) m.of in
      let b = write_of j (ops j) m.of in
      chain_to one i j _ ne (by_time ops n list l s one at_least_one a b (turned ops n list l s one at_least_one b a m.meet) (omega arith))
  reached i j low high ne (Both f lt) =
      let m = both ops n list l s one at_least_one i j low high ne f in
      chain_to one i j _ ne (by_time ops n list l s one at_least_one (write_of i (ops i) m.of) (write_of j (ops j) m.of) m.meet (omega arith))
  reached i j low high ne (Listed f lt) = chain_to one i j (pos 0) ne (in_order ops n list l s one at_least_one i j low high ne f lt)

pub links_span : LinksSpan
links_span ops n list l s = record {
  inside = λ i j t. let r = linked_says ops n list l s i j t in (r.0, r.2.inside);
  sound = λ i j t. let r = linked_says ops n list l s i j t in of_before i j (ops i) (ops j) r.2.differ r.2.comes;
  reached = λ i j low high t. let r = before_of i j (ops i) (ops j) t in reached ops n list l s i j low high r.0 r.1;
}
