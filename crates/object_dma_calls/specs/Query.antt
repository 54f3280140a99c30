-- What is asked of object DMA: whether it runs, the bytes counted, the page.
use Rattle.console.specs.declared.Cgb.{Cgb}
use Rattle.object_dma.specs.ObjectDma.{runs}
use Rattle.answers.specs.declared.ObjectDmaTally.{ObjectDmaTally}

abbrev pub object_dma_told : Cgb → ObjectDmaTally
object_dma_told s = let o = s.object_dma in record { runs = runs o; counted = o.counted; page = o.page }
