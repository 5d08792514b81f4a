-- `due::admits` meets its contract: each case has its kinds. Assumes nothing.
use Rattle.std.proofs.Common.{◌≡◌, ℕ, refl, inl, inr, arith}
use Rattle.due.specs.Found.{admits_size, admits_seed, admits_share, admits_end}
use Rattle.due.proofs.admits.Goals as goal

pub returns-in-Size-matches : goal.returns-in-Size-matches
returns-in-Size-matches c = rw (c.in-Size.is, c.in-Size-matches.is) (admits_size 1)

pub returns-in-Seed-matches : goal.returns-in-Seed-matches
returns-in-Seed-matches c = rw (c.in-Seed.is, c.in-Seed-matches.is) (admits_seed 3)

pub returns-in-Share : goal.returns-in-Share
returns-in-Share c = elim c.in-Share.is [ inl e ↦ rw (c.in-Edges.is, e) (admits_share 2 refl) | inr e ↦ rw (c.in-Edges.is, e) (admits_end 4 (λ f. let d : ◌≡◌ {A = ℕ} 4 2 = f in omega arith)) ]
