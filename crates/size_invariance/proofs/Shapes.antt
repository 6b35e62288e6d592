-- To have the same shape is an equivalence, and reordered blocks keep the shape.
use Rattle.std.proofs.Common.{refl, sym, ◌∙◌}
use Rattle.size_invariance.specs.Laws.{ShapesAreReflexive, ShapesAreSymmetric, ShapesAreTransitive, ReorderingsKeepTheShape}
use Rattle.size_invariance.specs.Shape.{block_words}
use Rattle.size_invariance.proofs.Likeness.{reorderings_keep_operations}

pub shapes_are_reflexive : ShapesAreReflexive
shapes_are_reflexive rows page a long =
    record {
      first = long;
      second = long;
      blocks = λ k lt on n. refl;
      others = λ i lt out. refl;
    }

pub shapes_are_symmetric : ShapesAreSymmetric
shapes_are_symmetric rows page a b s =
    record {
      first = s.second;
      second = s.first;
      blocks = λ k lt on n. sym (s.blocks k lt on n);
      others = λ i lt out. sym (s.others i lt out);
    }

pub shapes_are_transitive : ShapesAreTransitive
shapes_are_transitive rows page a b c s t =
    record {
      first = s.first;
      second = t.second;
      blocks = λ k lt on n. s.blocks k lt on n ∙ t.blocks k lt on n;
      others = λ i lt out. s.others i lt out ∙ t.others i lt out;
    }

pub reorderings_keep_the_shape : ReorderingsKeepTheShape
reorderings_keep_the_shape rows page old new r =
    record {
      first = r.first;
      second = r.second;
      blocks = λ k lt on. reorderings_keep_operations (block_words rows k old) (block_words rows k new) (r.blocks k lt on);
      others = λ i lt out. r.old_zero i lt out ∙ sym (r.new_zero i lt out);
    }
