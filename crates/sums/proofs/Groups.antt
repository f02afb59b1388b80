-- Words under the laws of an abelian group: sums regrouped, and differences known by what they add up to.
use mathlib.Core.Path.{◌≡◌, sym, ap, ap₂, ◌∙◌}
use Rattle.sums.specs.Ops.{Ops, Laws}

module _ {A : Type 0} (o : Ops A) (g : Laws o) where
  pub nil-add : (a : A) → o.add o.nil a ≡ a
  nil-add a = g.comm o.nil a ∙ g.add_nil a

  left_comm : (a b c : A) → o.add a (o.add b c) ≡ o.add b (o.add a c)
  left_comm a b c = sym (g.assoc a b c) ∙ ap (λ x. o.add x c) (g.comm a b) ∙ g.assoc b a c

  pub medial : (a b c d : A) → o.add (o.add a b) (o.add c d) ≡ o.add (o.add a c) (o.add b d)
  medial a b c d = g.assoc a b (o.add c d) ∙ ap (o.add a) (left_comm b c d) ∙ sym (g.assoc a c (o.add b d))

  pub swap : (a b c : A) → o.add (o.add a b) c ≡ o.add (o.add a c) b
  swap a b c = g.assoc a b c ∙ ap (o.add a) (g.comm b c) ∙ sym (g.assoc a c b)

  pub add-sub_left : (a b : A) → o.sub (o.add a b) a ≡ b
  add-sub_left a b = ap (λ x. o.sub x a) (g.comm a b) ∙ g.add_sub b a

  -- a difference is known by what it adds up to
  pub sub_of : (a b c : A) → o.add c b ≡ a → o.sub a b ≡ c
  sub_of a b c e = ap (λ x. o.sub x b) (sym e) ∙ g.add_sub c b

  pub sub_self : (a : A) → o.sub a a ≡ o.nil
  sub_self a = sub_of a a o.nil (nil-add a)

  -- a difference of sums is the sum of the differences
  pub sub_medial : (a b c d : A) → o.sub (o.add a b) (o.add c d) ≡ o.add (o.sub a c) (o.sub b d)
  sub_medial a b c d =
      sub_of (o.add a b) (o.add c d) (o.add (o.sub a c) (o.sub b d))
      (medial (o.sub a c) (o.sub b d) c d ∙ ap₂ o.add (g.sub_add a c) (g.sub_add b d))
